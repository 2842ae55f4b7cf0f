use Rattle.ct_codec.proofs.Leaves.{leaf_cut_version, leaf_cut_type, leaf_cut_timestamp}
use Rattle.ct_codec.proofs.reading.timestamp_at.Goals as goal

pub returns-in_default-clause-fault : goal.returns-in_default-clause-fault
returns-in_default-clause-fault c = leaf_cut_version c.args.reader.now c.in_default.ensures.none

pub returns-in_default-number_1-clause-fault : goal.returns-in_default-number_1-clause-fault
returns-in_default-number_1-clause-fault c =
    leaf_cut_type c.args.reader.now c.number_1.new.self c.in-Some.version c.in-Some.ensures.some c.if-version-ne0.false c.in_default-number_1.ensures.none

pub returns-in_default-number_8-clause-fault : goal.returns-in_default-number_8-clause-fault
returns-in_default-number_8-clause-fault c =
    leaf_cut_timestamp c.args.reader.now c.number_1-2.new.self c.number_1.new.self c.in-Some.version c.in-Some-number_1.leaf_type c.in-Some.ensures.some
    c.if-version-ne0.false c.in-Some-number_1.ensures.some c.if-leaf_type-ne0.false c.in_default-number_8.ensures.none
