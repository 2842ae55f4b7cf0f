use Rattle.std.proofs.Common.{◌≡◌, rules}
use Rattle.std.specs.Prelude.{None}
use Rattle.std.specs.Arc.{arc_value}
use Rattle.ct_codec.specs.Submitted.{refusal_of, entry_of}
use Rattle.ct_codec.specs.Leaf.{IsEntry}
use Rattle.ct_core.proofs.Texts.{has_texts}
use Rattle.ct_core.proofs.entry.StoredEntry.new.Goals as goal

pub returns-clause-texts : goal.returns-clause-texts
returns-clause-texts c =
    let none : refusal_of (arc_value c.args.submission) ≡ None = search rules in
    let entry : IsEntry (entry_of (arc_value c.args.submission)) = search rules in
    has_texts (arc_value c.args.submission) c.args.timestamp none entry c.ranges.timestamp.fits
