use Rattle.std.proofs.Common.{rules}
use Rattle.ct_codec.proofs.Refusals.{extra_written}
use Rattle.ct_codec.proofs.writing.extra_data.Goals as goal

pub returns-clause-text : goal.returns-clause-text
returns-clause-text g c = extra_written c.args.submission.now c.push_chain.new.out.items c.certificates.result.now c.certificates.ensures.in_range.0
    c.certificates.ensures.value (search rules)
