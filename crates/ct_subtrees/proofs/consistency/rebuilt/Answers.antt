use Rattle.std.proofs.Common.{◌≡◌, ℕ, List, [], ◌∷◌, ◌++◌, length, suc, true, false, arith, sym, ◌∙◌, ap, subst}
use Rattle.ct_subtrees.specs.Walk.{HasOtherLength, PartYields, part_at}
use Rattle.ct_subtrees.specs.declared.consistency.Hashes.{Hashes}
use Rattle.ct_subtrees.specs.declared.descent.Part.{Part}
use Rattle.ct_subtrees.proofs.Steps.{returned, longer}
use Rattle.ct_subtrees.proofs.Depths.{length_in, yields_known, yields_given, length_known, length_given}
use Rattle.ct_subtrees.proofs.consistency.rebuilt.Goals as goal

abbrev Climbed : (List ℕ → List ℕ) → ℕ → Part → List ℕ → List (List ℕ) → Hashes → Type 0
Climbed H d t x p z =
    (r : List ℕ) (q : List (List ℕ)) → PartYields H (part_at d t) r q (x, x) → PartYields H t r (q ++ p) (z.subtree, z.root)

pub returns-then-at : goal.returns-then-at
returns-then-at g c =
    let t : Part = record { place = c.args.place; known = c.args.known } in
    let d = c.depth-depth.result in
    let known : (part_at d t).known ≡ true = ap (λ (u : Part). u.known) (sym c.at.ensures.part) ∙ c.if-at.true in
    let e = length_known d t (c.requires.some, c.requires.inside) c.depth-depth.ensures.split c.depth-depth.ensures.whole known in
    returned (Climbed g.H.NodeHash.digest d t c.args.subtree_hash.now c.args.proof.now)
    (λ z. PartYields g.H.NodeHash.digest t c.args.subtree_hash.now c.args.proof.now (z.subtree, z.root))
    (HasOtherLength d (length c.args.proof.now)) (HasOtherLength (length_in t) (length c.args.proof.now)) c.climb.result
    (λ z f. f c.args.subtree_hash.now [] (yields_known g.H.NodeHash.digest (part_at d t) c.args.subtree_hash.now c.depth-depth.ensures.whole known))
    (λ fault h. subst (λ v. HasOtherLength v (length c.args.proof.now) fault) e h)
    c.climb.ensures

pub returns-in-Some : goal.returns-in-Some
returns-in-Some g c =
    let t : Part = record { place = c.args.place; known = c.args.known } in
    let d = c.depth-depth.result in
    let known : (part_at d t).known ≡ false = ap (λ (u : Part). u.known) (sym c.at.ensures.part) ∙ c.if-at.false in
    let e = length_given d t (c.requires.some, c.requires.inside) c.depth-depth.ensures.split c.depth-depth.ensures.whole known in
    let p : c.args.proof.now ≡ c.in-Some.first.now ∷ c.in-Some.path.now = c.in-Some.ensures.cases.0 in
    returned (Climbed g.H.NodeHash.digest d t c.in-Some.first.now c.in-Some.path.now)
    (λ z. PartYields g.H.NodeHash.digest t c.args.subtree_hash.now c.args.proof.now (z.subtree, z.root))
    (HasOtherLength d (length c.in-Some.path.now)) (HasOtherLength (length_in t) (length c.args.proof.now)) c.climb-in-Some.result
    (λ z f. subst (λ (l : List (List ℕ)). PartYields g.H.NodeHash.digest t c.args.subtree_hash.now l (z.subtree, z.root)) (sym p)
    (f c.args.subtree_hash.now (c.in-Some.first.now ∷ [])
    (yields_given g.H.NodeHash.digest (part_at d t) c.args.subtree_hash.now c.in-Some.first.now c.depth-depth.ensures.whole known)))
    (λ fault h. subst (λ v. HasOtherLength v (length c.args.proof.now) fault) e
    (subst (λ v. HasOtherLength (suc d) v fault) (sym (ap length p)) (longer d (length c.in-Some.path.now) fault h)))
    c.climb-in-Some.ensures

pub returns-in-None : goal.returns-in-None
returns-in-None g c =
    let t : Part = record { place = c.args.place; known = c.args.known } in
    let d = c.depth-depth.result in
    let known : (part_at d t).known ≡ false = ap (λ (u : Part). u.known) (sym c.at.ensures.part) ∙ c.if-at.false in
    let e = length_given d t (c.requires.some, c.requires.inside) c.depth-depth.ensures.split c.depth-depth.ensures.whole known in
    let none : length c.args.proof.now ≡ 0 = c.in-None.ensures.cases in
    omega (arith, none, e)
