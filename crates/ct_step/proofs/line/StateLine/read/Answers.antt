use Rattle.std.proofs.Common.{◌≡◌, sym, subst}
use Rattle.std.specs.Prelude.{Option, MatchOption}
use Rattle.ct_step.specs.StateLines.{IsStateLine, NoStateLine, state_line_bytes, state_line_text}
use Rattle.ct_step.specs.declared.line.StateLine.{StateLine}
use Rattle.ct_step.proofs.StateLines.{length-bytes, are_bytes, digits_of, text_of, word_is, line_read}
use Rattle.ct_step.proofs.line.StateLine.read.Goals as goal

pub returns-in_err-bytes : goal.returns-in_err-bytes
returns-in_err-bytes c =
    let d = c.in_ok-word.ensures.cases in
    subst (λ (o : Option StateLine). MatchOption o (NoStateLine c.args.text.now) (λ line. IsStateLine line × (state_line_text line ≡ c.args.text.now)))
    (sym c.from_residual-in_err-bytes.ensures)
    (λ line h e. c.in_err-bytes.ensures (state_line_bytes line) (length-bytes line h) (are_bytes line h) (digits_of c.args.text.now c.in_ok-word.digits.now line d.1 e))

pub returns : goal.returns
returns c =
    let d = c.in_ok-word.ensures.cases in
    line_read c.line_of.result c.args.text.now c.in_ok-bytes.bytes c.line_of.ensures.some c.line_of.ensures.fields c.line_of.ensures.fits
    (text_of c.args.text.now c.in_ok-word.word.now c.in_ok-word.digits.now c.in_ok-bytes.bytes d.0 d.1
    (word_is c.in_ok-word.word.now c.ne.result c.ne.ensures c.if-ne.false) c.in_ok-bytes.ensures.1)
