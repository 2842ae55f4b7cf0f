use Rattle.std.proofs.Common.{ℕ, List, Option, subst}
use Rattle.std.specs.Prelude.{MatchOption}
use Rattle.sha2.specs.Sha256.{sha256}
use Rattle.sha2.proofs.Facts256.{length-sha256}
use Rattle.ct_monitor.specs.WatcherState.{WatcherState}
use Rattle.ct_monitor.specs.StateText.{IsInBytes, IsPartsText}
use Rattle.ct_monitor.proofs.NoTexts.{no_parts, not_fitting, not_so}
use Rattle.ct_monitor.proofs.reading.read_state.Goals as goal

abbrev AreParts : List ℕ → Option WatcherState → Type 0
AreParts parts o = MatchOption o ((s : WatcherState) → IsInBytes s → IsPartsText s parts → ⊥) (λ w. IsInBytes w × IsPartsText w parts)

pub returns-in_default-2 : goal.returns-in_default-2
returns-in_default-2 c =
    let none = subst (AreParts c.in-Some.parts.now) c.in_default-2.is c.in_ok-watcher.ensures in
    no_parts sha256 length-sha256 c.args.bytes.now c.in-Some.parts.now c.in-Some.ensures none

pub returns-else-fits : goal.returns-else-fits
returns-else-fits c =
    let some = subst (AreParts c.in-Some.parts.now) c.in-Some-2.is c.in_ok-watcher.ensures in
    not_fitting sha256 length-sha256 c.args.bytes.now c.in-Some.parts.now c.in-Some-2.watcher c.in-Some.ensures some.0 some.1
    (not_so c.fits_together-fits.result _ _ c.fits_together-fits.ensures c.if-fits.false)
