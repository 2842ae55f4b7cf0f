-- The results of calls that are returned, the refusals of lengths, and the step over one element of a proof.
use Rattle.std.proofs.Common.{◌≡◌, ℕ, suc, ◌-◌, ◌<◌, ◌≤◌, refl, sym, ◌∙◌, ap, arith, Bool, true, false, List, [], ◌∷◌, ◌++◌, length, Some, subst}
use Rattle.std.specs.Prelude.{Result, Ok, Err, MatchResult}
use Rattle.std.specs.Result.{IsErrAnd}
use Rattle.std.proofs.lemmas.Result.{err_from_is_err_and}
use Rattle.std.specs.Option.{option_map}
use Rattle.std.proofs.lemmas.Bool.{both_ways}
use Rattle.ct_tree.specs.Tree.{split, hash_node}
use Rattle.ct_tree.specs.Lengths.{path_length}
use Rattle.ct_verify.specs.Climb.{pair_left, pair_right}
use Rattle.ct_subtrees.specs.Subtrees.{is_whole, subtree_length}
use Rattle.ct_subtrees.specs.Roots.{subtree_roots}
use Rattle.ct_subtrees.specs.Verdict.{IsInSubtree, RefusesEvaluation}
use Rattle.ct_subtrees.specs.Walk.{HasOtherLength}
use Rattle.ct_subtrees.specs.declared.fault.SubtreeFault.{SubtreeFault}
use Rattle.ct_subtrees.specs.declared.fault.SubtreeFault.TheVariants.{NotASubtree, BeyondTree, IndexOutOfRange, PathTooLong, PathTooShort}
use Rattle.ct_subtrees.specs.declared.fault.SubtreeFault.TheVariants.{FirstMismatch, RootMismatch}
use Rattle.ct_subtrees.proofs.Whole.{Part, all, first_part, second_part, both_parts, part, whole_is}
use Rattle.ct_subtrees.proofs.Length.{length-left, length-right, length-both}
use Rattle.ct_subtrees.proofs.Down.{pair_beyond, roots-left, roots-right, roots-both}

-- a test that is false shows that what it decides does not hold
pub not_shown : (w r : Bool) → (w ≡ true → r ≡ true) → r ≡ false → w ≡ false
not_shown true r h f = absurd (both_ways r f (h refl))
not_shown false r h f = refl

-- the refusal of a call that is passed on
pub passed_on : {T E : Type 0} (P : T → Type 0) (Q : E → Type 0) (fault : E) (r : Result T E) → IsErrAnd r (λ e. e ≡ fault) → Q fault → MatchResult r P Q
passed_on {T} {E} P Q fault r met holds =
    let p = err_from_is_err_and r met in
    subst (λ (r : Result T E). MatchResult r P Q) (sym p.1) (subst Q (sym p.2) holds)

-- the result of a call that is returned
pub returned : {T E : Type 0} (P Q : T → Type 0) (R S : E → Type 0) (r : Result T E) → ((z : T) → P z → Q z) → ((e : E) → R e → S e)
    → MatchResult r P R → MatchResult r Q S
returned P Q R S (Ok z) f g h = f z h
returned P Q R S (Err e) f g h = g e h

-- ---- lengths
pub longer : (wanted given : ℕ) (fault : SubtreeFault) → HasOtherLength wanted given fault → HasOtherLength (suc wanted) (suc given) fault
longer a b PathTooLong h = omega arith
longer a b PathTooShort h = omega arith
longer a b NotASubtree h = h
longer a b BeyondTree h = h
longer a b IndexOutOfRange h = h
longer a b FirstMismatch h = h
longer a b RootMismatch h = h

-- the refusal of a path's length in a subtree
pub refuses_path : (i s e : ℕ) (p : List (List ℕ)) (fault : SubtreeFault) → IsInSubtree i s e
    → HasOtherLength (path_length (i - s) (e - s)) (length p) fault → RefusesEvaluation i s e p fault
refuses_path i s e p PathTooLong w h = (w, h)
refuses_path i s e p PathTooShort w h = (w, h)
refuses_path i s e p NotASubtree w h = absurd h
refuses_path i s e p BeyondTree w h = absurd h
refuses_path i s e p IndexOutOfRange w h = absurd h
refuses_path i s e p FirstMismatch w h = absurd h
refuses_path i s e p RootMismatch w h = absurd h

pub subtree_short : (s e n : ℕ) (b : Bool) (given : ℕ) → s < e → e ≤ n → is_whole s e n ≡ false → given ≡ 0 → given < subtree_length s e n b
subtree_short s e n b given l i w z = by_part (part s e n l i)
  where
    by_part : Part s e n → given < subtree_length s e n b
    by_part (all y f) = absurd (both_ways (is_whole s e n) w (whole_is s e n y (omega arith)))
    by_part (first_part m v low) = omega (arith, length-left s e n b l i m v low)
    by_part (second_part m v high) = omega (arith, length-right s e n b l i m v high)
    by_part (both_parts m v before over) = omega (arith, length-both s e n b l i m v before over)

-- ---- the element of a consistency proof that is nearest the root
module _ (H : List ℕ → List ℕ) where
  pub in_left : (s e n k : ℕ) (b : Bool) (r c x y v : List ℕ) (p q : List (List ℕ)) → is_whole s e n ≡ false → k ≡ split n → e ≤ k → p ≡ q ++ c ∷ []
      → subtree_roots H s e k b r q ≡ Some (x, y) → v ≡ hash_node H y c → subtree_roots H s e n b r p ≡ Some (x, v)
  in_left s e n k b r c x y v p q w f low i below o =
      rw (i, o) (roots-left H s e n k b r c q w (sym f) low ∙ ap (option_map (λ z. pair_left H z c)) below)

  pub in_right : (s e n k : ℕ) (b : Bool) (r c x y v : List ℕ) (p q : List (List ℕ)) → is_whole s e n ≡ false → k ≡ split n → k ≤ s → s < e
      → p ≡ q ++ c ∷ [] → subtree_roots H (s - k) (e - k) (n - k) b r q ≡ Some (x, y) → v ≡ hash_node H c y
      → subtree_roots H s e n b r p ≡ Some (x, v)
  in_right s e n k b r c x y v p q w f high l i below o =
      rw (i, o) (roots-right H s e n k b r c q w (sym f) high l ∙ ap (option_map (λ z. pair_beyond H z c)) below)

  pub in_both : (s e n k : ℕ) (b : Bool) (r c x y u v : List ℕ) (p q : List (List ℕ)) → is_whole s e n ≡ false → k ≡ split n → s < k → k < e
      → p ≡ q ++ c ∷ [] → subtree_roots H 0 (e - k) (n - k) false r q ≡ Some (x, y) → u ≡ hash_node H c x → v ≡ hash_node H c y
      → subtree_roots H s e n b r p ≡ Some (u, v)
  in_both s e n k b r c x y u v p q w f before over i below j o =
      rw (i, j, o) (roots-both H s e n k b r c q w (sym f) before over ∙ ap (option_map (λ z. pair_right H z c)) below)
