-- The verdict and the report of an answer whose state was written, or had no room.
use Rattle.std.proofs.Common.{◌≡◌, ◌⊎◌, ℕ, List, inl, inr, arith}
use Rattle.ct_monitor.specs.declared.answer.Answer.{Answer}
use Rattle.ct_monitor.specs.declared.answer.EntriesAnswer.{EntriesAnswer}
use Rattle.libwagtenib.specs.Monitor.{GivesAnswer, TellsReport, TellsVerdict}
use Rattle.libwagtenib.specs.Output.{WritesOutput}
use Rattle.libwagtenib.specs.declared.monitor.EntryReport.{EntryReport}
use Rattle.libwagtenib.specs.declared.monitor.MonitorVerdict.{MonitorVerdict}

pub gives : (a : Answer) (code : ℕ) (verdict told : MonitorVerdict) (before after : List ℕ) (count : ℕ) → WritesOutput a.state.items code before after count
    → ((code ≡ 0) × TellsVerdict told a) ⊎ ((code ≡ 0 → ⊥) × (told ≡ verdict)) → GivesAnswer a code verdict told before after count
gives a code verdict told before after count (n, inl e) (inl t) = ((n, inl e), inl t)
gives a code verdict told before after count (n, inl e) (inr t) = absurd (t.0 e.0)
gives a code verdict told before after count (n, inr e) (inl t) = absurd (omega (arith, e.0, t.0))
gives a code verdict told before after count (n, inr e) (inr t) = ((n, inr e), inr (e.0, t.1))

pub reports : (a : EntriesAnswer) (code : ℕ) (verdict told : MonitorVerdict) (report reported : EntryReport) (before after : List ℕ) (count : ℕ)
    → GivesAnswer a.answer code verdict told before after count → ((code ≡ 0) × TellsReport reported a) ⊎ ((code ≡ 0 → ⊥) × (reported ≡ report))
    → ((code ≡ 0) × TellsReport reported a) ⊎ ((code ≡ 9) × (reported ≡ report))
reports a code verdict told report reported before after count g (inl r) = inl r
reports a code verdict told report reported before after count (w, inl e) (inr r) = absurd (r.0 e.0)
reports a code verdict told report reported before after count (w, inr e) (inr r) = inr (e.0, r.1)
