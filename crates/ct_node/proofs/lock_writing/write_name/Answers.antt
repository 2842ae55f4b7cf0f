-- The parts follow each other, and have 56 bytes.
use Rattle.std.proofs.Common.{◌≡◌, ◌∙◌, ◌++◌, ℕ, List, length, sym, ap, arith}
use Rattle.std.proofs.lemmas.List.{take_all}
use Rattle.ct_node.specs.LockText.{number_digits}
use Rattle.ct_node.proofs.lock_writing.write_name.Goals as goal

pub returns : goal.returns
returns c = record {
  name =
      sym (take_all 56 c.put_number-3.new.out (omega (arith, c.put_number-3.array_long)))
      ∙ c.put_number-3.ensures
      ∙ ap (λ (z : List ℕ). z ++ number_digits c.args.state.now.salt)
      (c.put_number-2.ensures
      ∙ ap (λ (z : List ℕ). z ++ number_digits c.args.state.now.before)
      (c.put_number.ensures ∙ ap (λ (z : List ℕ). z ++ number_digits c.args.state.now.moment) c.put.ensures));
}
