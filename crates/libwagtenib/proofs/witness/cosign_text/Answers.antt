use Rattle.std.proofs.Common.{List, ℕ, ◌≡◌, Option, Some, inl, inr, refl, subst, ◌∙◌}
use Rattle.std.specs.Prelude.{MatchOption}
use Rattle.ct_checkpoint.specs.declared.checkpoint.Checkpoint.{Checkpoint}
use Rattle.libwagtenib.specs.Output.{WritesOutput}
use Rattle.libwagtenib.specs.Witness.{tree_of, IsCheckpointOf, IsNoCheckpoint}
use Rattle.libwagtenib.proofs.witness.cosign_text.Goals as goal

pub returns-in-Ok-cosignature_message : goal.returns-in-Ok-cosignature_message
returns-in-Ok-cosignature_message c =
    let k = c.in-Ok-Some.checkpoint in
    let is = subst (λ (o : Option Checkpoint). MatchOption o (IsNoCheckpoint c.args.text.now) (λ x. IsCheckpointOf x.origin.now (tree_of x.size x.root) c.args.text.now))
    c.in-Ok-Some.field-0-is c.in-Ok-Some.ensures in
    let wrote = subst (λ (b : List ℕ). WritesOutput b c.write_output.result c.args.out.now c.write_output.new.memory c.write_output.new.length)
    (c.as_bytes.ensures.value ∙ c.in-Ok-cosignature_message.ensures) c.write_output.ensures in
    inr (inl (k.origin.now, tree_of k.size k.root, is, inl (c.in-Ok.ensures, wrote)))

pub returns-in-Err-judge : goal.returns-in-Err-judge
returns-in-Err-judge c =
    let k = c.in-Ok-Some.checkpoint in
    let is = subst (λ (o : Option Checkpoint). MatchOption o (IsNoCheckpoint c.args.text.now) (λ x. IsCheckpointOf x.origin.now (tree_of x.size x.root) c.args.text.now))
    c.in-Ok-Some.field-0-is c.in-Ok-Some.ensures in
    inr (inl (k.origin.now, tree_of k.size k.root, is, inr (c.in-Err-judge.ensures, refl, refl)))
