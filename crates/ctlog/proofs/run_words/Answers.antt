use Rattle.std.proofs.Common.{◌≡◌, ◌⊎◌, ◌∙◌, ℕ, List, String, map, string_bytes, ap, subst}
use Rattle.std.specs.Borrow.{Bor}
use Rattle.std.specs.Global.{Global}
use Rattle.std.proofs.KnownBytes.{Appends-nil}
use Rattle.ctlog.specs.CommandLine.{CommandLine, asked_for, asked_of, command_line, help, version, nothing}
use Rattle.ctlog.specs.FaultLines.{fault_line, name_of}
use Rattle.ctlog.specs.declared.names.Program.TheVariants.{Ctlog}
use Rattle.ctlog.specs.Runs.{IsDone, IsBrokenOff}
use Rattle.json_lines.specs.Sends.{SendsSome}
use Rattle.ct_lines.specs.declared.run_fault.Fault.{Fault}
use Rattle.ctlog.proofs.RunLemmas.{none_written}
use Rattle.ctlog.proofs.run_words.Goals as goal

-- the texts of the arguments have the same request as the arguments
same_words : (texts shown : List (Bor (List ℕ))) (words : List (String Global)) → shown ≡ texts
    → map (λ (w : Bor (List ℕ)). w.now) texts ≡ map string_bytes words
    → asked_for (name_of Ctlog) shown ≡ asked_of (name_of Ctlog) words
same_words texts shown words e f = ap (asked_for (name_of Ctlog)) e ∙ ap (command_line (name_of Ctlog)) f

pub returns-in-Ok-clause-done : goal.returns-in-Ok-clause-done
returns-in-Ok-clause-done g c =
    subst (λ (a : CommandLine). c.run.result ≡ 0
    → IsDone a (g.R.Read.remaining c.args.input.now) (g.W.Write.contents c.args.output.now) (g.W.Write.contents c.run.new.output))
    (same_words c.in-Ok.texts.items c.deref.result.now c.args.words.now c.deref.ensures.value c.in-Ok.ensures) c.run.ensures.done

pub returns-in-Ok-clause-fault : goal.returns-in-Ok-clause-fault
returns-in-Ok-clause-fault g c =
    subst (λ (a : CommandLine). c.run.result ≡ 1 → (f : Fault)
    × IsBrokenOff a f (g.R.Read.remaining c.args.input.now) (g.W.Write.contents c.args.output.now) (g.W.Write.contents c.run.new.output)
    × SendsSome (g.E.Write.contents c.args.faults.now) (g.E.Write.contents c.run.new.faults) (fault_line (name_of Ctlog) f))
    (same_words c.in-Ok.texts.items c.deref.result.now c.args.words.now c.deref.ensures.value c.in-Ok.ensures) c.run.ensures.fault

pub returns-in-Ok-clause-refused : goal.returns-in-Ok-clause-refused
returns-in-Ok-clause-refused g c =
    subst (λ (a : CommandLine). c.run.result ≡ 2 → (a ≡ nothing) × (c.run.new.output ≡ c.args.output.now))
    (same_words c.in-Ok.texts.items c.deref.result.now c.args.words.now c.deref.ensures.value c.in-Ok.ensures) c.run.ensures.refused

pub returns-in-Ok-clause-unread : goal.returns-in-Ok-clause-unread
returns-in-Ok-clause-unread g c =
    subst (λ (a : CommandLine). (a ≡ help) ⊎ ((a ≡ version) ⊎ (a ≡ nothing)) → c.run.new.input ≡ c.args.input.now)
    (same_words c.in-Ok.texts.items c.deref.result.now c.args.words.now c.deref.ensures.value c.in-Ok.ensures) c.run.ensures.unread

pub returns-in-Err-clause-fault : goal.returns-in-Err-clause-fault
returns-in-Err-clause-fault g c = λ e. (
  c.from.result,
  none_written c.from.result (g.R.Read.remaining c.args.input.now) (g.W.Write.contents c.args.output.now) (g.W.Write.contents c.args.output.now)
      (c.from.ensures, Appends-nil (g.W.Write.contents c.args.output.now)) (asked_of (name_of Ctlog) c.args.words.now),
  c.report.ensures.line,
)
