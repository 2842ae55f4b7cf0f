use Rattle.std.proofs.Common.{◌∙◌, ℕ, List, length, map, All, ap, sym, subst, refl, Vec, Global}
use Rattle.ct_step.specs.Believed.{edge_root}
use Rattle.ct_verify.specs.Laws.{AreHashes}
use Rattle.ct_step.proofs.Widths.{hashes_in, not_eight}
use Rattle.ct_step.proofs.growth.State.believed.Goals as goal

pub returns-in_default : goal.returns-in_default
returns-in_default g c = not_eight c.args.tiles.items c.args.head.now.tree_size c.in_default.ensures

pub returns : goal.returns
returns g c = record {
  believed = record {
    widths = ap (λ (x : List (Vec (List ℕ) Global)). map length (map hashes_in x)) (sym c.deref-2.ensures.value) ∙ c.if-not-have_widths.ensures;
    hashes = subst (λ (x : List (Vec (List ℕ) Global)). All AreHashes (map hashes_in x)) c.deref.ensures.value c.all_are_hashes.ensures;
    root = ap (λ (x : List (Vec (List ℕ) Global)). edge_root g.H.NodeHash.digest (map hashes_in x)) (sym c.deref-3.ensures.value)
        ∙ sym c.in_ok-root.ensures ∙ c.is_same_digest.ensures.0 c.if-not-is_same_digest.false;
  };
  edge = c.in-Some.ensures;
  moment = refl;
}
