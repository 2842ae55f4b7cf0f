-- All steps whose states the lock took belong to one list.
use Rattle.std.proofs.Common.{◌≡◌, ◌∙◌, ℕ, ◌+◌, ◌*◌, ◌/◌, ◌<◌, ◌≤◌, cond, List, [], ◌∷◌, ◌++◌, length, take, drop, get_or, map, All, sym, refl, ap, subst, arith, inl, inr}
use Rattle.std.proofs.Common.{append_assoc, length-append}
use Rattle.std.proofs.lemmas.List.{length-map, take_at, drop_at, drop-append-le, map-append}
use Rattle.std.proofs.lemmas.List.Elements.{All-cons, All-nil}
use Rattle.std.proofs.lemmas.List.Kept.{AllPairs-cons}
use Rattle.ct_codec.specs.Submitted.{entry_of}
use Rattle.ct_tree.specs.Tree.{hash_leaf, mth_of_leaves}
use Rattle.ct_tiles.specs.Tiles.{hashes, row}
use Rattle.ct_tiles.proofs.Chunks.{added, hashes-append, rows-at}
use Rattle.ct_step.specs.Leaves.{indexed_leaves, receipts_from}
use Rattle.ct_step.specs.Growths.{IsState, IsGrowth}
use Rattle.ct_step.specs.History.{Attempt, AreAttempts, taken, IsRowOf, IsOfList, ComesBehind, CarryOn, SequencersAgree}
use Rattle.ct_step.specs.declared.growth.State.{State}
use Rattle.ct_step.proofs.Steps.{length-indexed, signed_leaves}

-- a row of the tiles of D ++ B is one of any longer list
row_of : (H : List ℕ → List ℕ) (level : ℕ) (D B Z : List (List ℕ)) → IsRowOf H ((D ++ B) ++ Z) level (row H 256 level D B)
row_of H level D B Z =
    let first = length (hashes H 256 level D) / 256 in
    let E = hashes H 256 level (D ++ B) in
    let X = drop (256 * first) E in
    let inside : 256 * first ≤ length E =
    omega (arith, ap length (hashes-append H level D B) ∙ length-append (hashes H 256 level D) (added H level D B)) in
    sym (ap (λ e. take (length X) (drop (256 * first) e)) (hashes-append H level (D ++ B) Z)
    ∙ ap (take (length X)) (drop-append-le (256 * first) E (added H level (D ++ B) Z) inside)
    ∙ take_at X (added H level (D ++ B) Z) (length X) refl)

-- the leaves that an attempt's step adds after the leaves D
abbrev pub new_leaves : List (List ℕ) → Attempt → List (List ℕ)
new_leaves D a = indexed_leaves a.now (length D) (map entry_of a.batch)

is_of : (H : List ℕ → List ℕ) (D Z : List (List ℕ)) (a : Attempt) → IsGrowth H D (map entry_of a.batch) a.now a.growth
    → IsOfList H ((D ++ new_leaves D a) ++ Z) a
is_of H D Z a p =
    let N = new_leaves D a in
    let g = a.growth in
    let leaf = hash_leaf H in
    let hashed : map leaf ((D ++ N) ++ Z) ≡ (map leaf D ++ map leaf N) ++ map leaf Z =
    map-append leaf (D ++ N) Z ∙ ap (λ x. x ++ map leaf Z) (map-append leaf D N) in
    let count : length N ≡ length a.batch = length-indexed a.now (length D) (map entry_of a.batch) ∙ length-map a.batch entry_of in
    let rest : drop g.first ((D ++ N) ++ Z) ≡ N ++ Z =
    ap (λ n. drop n ((D ++ N) ++ Z)) p.first ∙ ap (drop (length D)) (append_assoc D N Z) ∙ drop_at D (N ++ Z) (length D) refl in
    record {
      size = omega (arith, p.size, length-append (D ++ N) Z);
      root = p.root ∙ ap (mth_of_leaves H) (sym (ap (λ n. take n ((D ++ N) ++ Z)) p.size ∙ take_at (D ++ N) Z (length (D ++ N)) refl));
      moment = p.timestamp;
      receipts = p.receipts ∙ ap (λ (n : ℕ). receipts_from a.now n (map entry_of a.batch)) (sym p.first);
      leaves = signed_leaves a.now (length D) (map entry_of a.batch) g.receipts.items p.receipts
          ∙ sym (ap (take (length a.batch)) rest ∙ ap (λ n. take n (N ++ Z)) (sym count) ∙ take_at N Z (length N) refl);
      rows = λ level h.
          subst (IsRowOf H (map leaf ((D ++ N) ++ Z)) level)
          (sym (ap (λ (s : List (ℕ × List (List ℕ))). get_or s level (0, [])) p.rows ∙ rows-at H 8 level (map leaf D) (map leaf N) h))
          (subst (λ (E : List (List ℕ)). IsRowOf H E level (row H 256 level (map leaf D) (map leaf N))) (sym hashed)
          (row_of H level (map leaf D) (map leaf N) (map leaf Z)));
    }

-- steps that carry on, and begin at an index or after it
pub record Carried (H : List ℕ → List ℕ) (since from : ℕ) (D : List (List ℕ)) (steps : List Attempt) : Type 0 where
  pub carry : CarryOn H since D steps
  pub behind : All (λ a. from ≤ a.growth.first) steps

pub carried_none : (H : List ℕ → List ℕ) (since from : ℕ) (D : List (List ℕ)) → Carried H since from D []
carried_none H since from D = record {
  carry = record {
    all = All-nil (IsOfList H D);
    later = All-nil (λ a. since < a.growth.head.timestamp);
    order = λ i j d less within. absurd (omega (arith, less, within));
  };
  behind = All-nil (λ a. from ≤ a.growth.first);
}

-- one step before those that carry on from its state
pub carried_more : (H : List ℕ → List ℕ) (since : ℕ) (known Z : List (List ℕ)) (a : Attempt) (steps : List Attempt) → since < a.now
    → IsGrowth H known (map entry_of a.batch) a.now a.growth
    → Carried H a.growth.state.timestamp (length (known ++ new_leaves known a)) ((known ++ new_leaves known a) ++ Z) steps
    → Carried H since (length known) ((known ++ new_leaves known a) ++ Z) (a ∷ steps)
carried_more H since known Z a steps later g rest =
    let D = (known ++ new_leaves known a) ++ Z in
    let grown : length (known ++ new_leaves known a) ≡ length known + length (new_leaves known a) = length-append known (new_leaves known a) in
    record {
      carry = record {
        all = All-cons (IsOfList H D) a steps (is_of H known Z a g) rest.carry.all;
        later = All-cons (λ b. since < b.growth.head.timestamp) a steps (omega (arith, later, g.timestamp))
            (λ k d h. omega (arith, later, g.moment, rest.carry.later k d h));
        order = AllPairs-cons ComesBehind a steps
            (λ k d h. record {
              moment = omega (arith, g.timestamp, g.moment, rest.carry.later k d h);
              leaves = omega (arith, g.size, rest.behind k d h);
            })
            rest.carry.order;
      };
      behind = All-cons (λ b. length known ≤ b.growth.first) a steps (omega (arith, g.first))
          (λ k d h. omega (arith, grown, rest.behind k d h));
    }

agree_from : (H : List ℕ → List ℕ) (held : State) (known : List (List ℕ)) (attempts : List Attempt) → IsState H held known → AreAttempts H held attempts
    → (Z : List (List ℕ)) × Carried H held.timestamp (length known) (known ++ Z) (taken attempts)
unfolding AreAttempts
agree_from H held known [] s made = ([], carried_none H held.timestamp (length known) (known ++ []))
agree_from H held known (a ∷ rest) s (made, inl (took, seen, more)) =
    let g = made.1 known (subst (λ (x : State). IsState H x known) (sym seen) s) in
    let N = new_leaves known a in
    let behind = agree_from H a.growth.state (known ++ N) rest g.state more in
    let e : (known ++ N) ++ behind.0 ≡ known ++ (N ++ behind.0) = append_assoc known N behind.0 in
    let since : held.timestamp < a.now = omega (arith, made.0.0, ap (λ (x : State). x.timestamp) seen) in
    let kept : taken (a ∷ rest) ≡ a ∷ taken rest = ap (λ b. cond b (a ∷ taken rest) (taken rest)) took in (
      N ++ behind.0,
      subst (λ (D : List (List ℕ)). Carried H held.timestamp (length known) D (taken (a ∷ rest))) e
          (subst (λ (steps : List Attempt). Carried H held.timestamp (length known) ((known ++ N) ++ behind.0) steps) (sym kept)
          (carried_more H held.timestamp known behind.0 a (taken rest) since g behind.1)),
    )
agree_from H held known (a ∷ rest) s (made, inr (left, more)) =
    let behind = agree_from H held known rest s more in
    let kept : taken (a ∷ rest) ≡ taken rest = ap (λ b. cond b (a ∷ taken rest) (taken rest)) left in
    (behind.0, subst (λ (steps : List Attempt). Carried H held.timestamp (length known) (known ++ behind.0) steps) (sym kept) behind.1)

pub sequencers_agree : SequencersAgree
sequencers_agree H held known attempts s made =
    let all = agree_from H held known attempts s made in
    (known ++ all.0, sym (take_at known all.0 (length known) refl), all.1.carry)
