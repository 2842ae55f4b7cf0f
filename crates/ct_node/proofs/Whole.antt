-- All objects of a published head's step are in the store.
use Rattle.std.proofs.Common.{◌≡◌, ◌∙◌, ◌⊎◌, ⊎_elim, inl, inr, refl, sym, ap, subst, ℕ, List, map}
use Rattle.std.specs.Prelude.{Ok, Contains, take, length}
use Rattle.ct_data_tiles.specs.TileLeaf.{Tiled}
use Rattle.ct_step.specs.Bundle.{IsBundleOf}
use Rattle.ct_step.specs.Resumed.{BundlesAreResumed, object_parts}
use Rattle.ct_step.specs.declared.line.StateLine.{StateLine}
use Rattle.ct_node.specs.declared.state.State.{State}
use Rattle.ct_node.specs.Worlds.{Has, Made, World, IsSoundWorld, WorldsAreSound}
use Rattle.ct_node.specs.Logs.{NodesWriteOneLog, StandsOf, log_of_past}
use Rattle.ct_node.specs.Names.{objects_of}
use Rattle.ct_node.specs.Whole.{AreAllPut, HasAllObjects, HeadsHaveAllObjects}
use Rattle.ct_verify.specs.Hashed.{CollideAmong}
use Rattle.ct_verify.proofs.Agreeing.{one_hash}
use Rattle.ct_step.specs.Lines.{LineAttempt, IsHashedBySteps, IsStepOf}

pub heads_have_all_objects : NodesWriteOneLog → WorldsAreSound → BundlesAreResumed → HeadsHaveAllObjects
heads_have_all_objects agree sound again H S line step plan known count b hs w begins leads is steps whole l head =
    let E : List Tiled = log_of_past step known w.past in
    let T : List ℕ → Type 0 = IsHashedBySteps H S E in
    let s : IsSoundWorld count w = sound count b hs w begins leads in
    ⊎_elim
    (λ (r : (known ≡ take (length known) E) × StandsOf H line step b plan E w).
    ⊎_elim
    (λ (e : l ≡ b). inl (inl e))
    (λ (y : (m : Made) × Has m w.made × (m.new ≡ l) × ((step m).step.line ≡ line l) × IsStepOf H E (step m)).
    let a : LineAttempt = step y.0 in
    let p : AreAllPut H S line count plan l = subst (λ z. AreAllPut H S line count plan z) y.2 (whole y.0 y.1) in
    let kept : Contains S a.step.bundle.items = (steps y.0 y.1).0.2.1 in
    let digest : (line l).bundle ≡ H a.step.bundle.items = sym (ap (λ (z : StateLine). z.bundle) y.3) ∙ y.4.step.digest in
    ⊎_elim
    (λ (same : p.0 ≡ a.step.bundle.items).
    let found : map object_parts p.1.items ≡ objects_of H E a =
    again H (line l) (objects_of H E a) p.0 (Ok p.1) (subst (λ v. IsBundleOf (objects_of H E a) v) (sym same) y.4.step.bundle) (digest ∙ ap H (sym same)) p.3 in
    inl (inr (
      y.0,
      y.1,
      y.2,
      y.4,
      λ o h.
          let i = p.4 o (subst (λ v. Has o v) (sym found) h) in
          (record { state = l; index = i.0 }, s.tiles l head i.0 i.1, refl, i.2),
    )))
    (λ (pair : CollideAmong H T). inr pair)
    (one_hash H T p.0 a.step.bundle.items (inl p.2) (inl kept) (p.3.0 ∙ digest)))
    (r.1.past l (s.heads l head)))
    (λ (pair : CollideAmong H T). inr pair)
    (agree H S line step plan known count b hs w begins leads is steps E refl)
