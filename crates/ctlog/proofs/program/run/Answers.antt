use Rattle.clap.specs.Words.{kind_of}
use Rattle.ctlog.specs.CommandLine.{CommandLine, asked_for}
use Rattle.ctlog.specs.FaultLines.{name_of}
use Rattle.ctlog.specs.declared.names.Program.TheVariants.{Ctlog}
use Rattle.ctlog.proofs.AnswerLemmas.{noticed, refused_words, unanswered}
use Rattle.ctlog.specs.Runs.{IsBrokenOff, IsDone}
use Rattle.ctlog.proofs.RunLemmas.{none_written}
use Rattle.ctlog.proofs.program.run.Goals as goal

pub returns-in-Err-clause-done : goal.returns-in-Err-clause-done
returns-in-Err-clause-done g c = λ e.
    let (is, text) = c.answer_command_line.ensures.noticed e in
    noticed (λ (a : CommandLine). IsDone a (g.R.Read.remaining c.args.input.now) (g.W.Write.contents c.args.output.now)
    (g.W.Write.contents c.answer_command_line.new.output)) (kind_of c.in-Err.error) (asked_for (name_of Ctlog) c.args.words.now) c.in-Err.ensures is text text

pub returns-in-Err-clause-fault : goal.returns-in-Err-clause-fault
returns-in-Err-clause-fault g c = λ e.
    let (f, told, line) = c.answer_command_line.ensures.fault e in
    let input = g.R.Read.remaining c.args.input.now in
    let old = g.W.Write.contents c.args.output.now in
    let new = g.W.Write.contents c.answer_command_line.new.output in (
      f,
      unanswered (λ (a : CommandLine). IsBrokenOff a f input old new) (kind_of c.in-Err.error) (asked_for (name_of Ctlog) c.args.words.now) f old new
          c.in-Err.ensures told (λ text. (text, text)) (none_written f input old new),
      line,
    )

pub returns-in-Err-clause-refused : goal.returns-in-Err-clause-refused
returns-in-Err-clause-refused g c = λ e.
    let (not_help, not_memory, same) = c.answer_command_line.ensures.refused e in
    (refused_words (kind_of c.in-Err.error) (asked_for (name_of Ctlog) c.args.words.now) c.in-Err.ensures not_help not_memory, same)
