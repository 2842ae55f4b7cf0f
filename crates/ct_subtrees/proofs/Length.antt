-- The length of a subtree's consistency proof.
use Rattle.std.proofs.Common.{◌≡◌, ℕ, zero, suc, ◌-◌, ◌<◌, ◌≤◌, cond, Bool, false, refl, ◌∙◌, ap, arith}
use Rattle.std.proofs.lemmas.Bool.{lt-ltb, le-ltb}
use Rattle.ct_tree.proofs.Split.{split_pos, split_lt}
use Rattle.ct_tree.specs.Tree.{split}
use Rattle.ct_subtrees.specs.Subtrees.{is_whole, subtree_length_within, subtree_length}
use Rattle.ct_subtrees.proofs.Whole.{Part, all, first_part, second_part, both_parts, part, whole_is}

abbrev Enough : ℕ → ℕ → Type 0
Enough d g =
    (s e n : ℕ) (b : Bool) → s < e → e ≤ n → n ≤ suc d → n ≤ suc g → subtree_length_within d s e n b ≡ subtree_length_within g s e n b

more_enough : (d g : ℕ) → Enough d g → (s e n : ℕ) (b : Bool) → s < e → e ≤ n → n ≤ suc (suc d) → n ≤ suc (suc g) → Part s e n
    → subtree_length_within (suc d) s e n b ≡ subtree_length_within (suc g) s e n b
unfolding subtree_length_within
more_enough d g ih s e n b l i p q (all z f) = rw (whole_is s e n z (omega arith)) refl
more_enough d g ih s e n b l i p q (first_part m w low) =
    rw (w, le-ltb (split n) e low) (ap suc (ih s e (split n) b l low (omega (arith, split_lt n m)) (omega (arith, split_lt n m))))
more_enough d g ih s e n b l i p q (second_part m w high) =
    let over : split n < e = omega arith in
    rw (w, lt-ltb (split n) e over, le-ltb s (split n) high)
    (ap suc (ih (s - split n) (e - split n) (n - split n) b (omega arith) (omega arith) (omega (arith, split_pos n m)) (omega (arith, split_pos n m))))
more_enough d g ih s e n b l i p q (both_parts m w before over) =
    rw (w, lt-ltb (split n) e over, lt-ltb s (split n) before)
    (ap suc (ih 0 (e - split n) (n - split n) false (omega arith) (omega arith) (omega (arith, split_pos n m)) (omega (arith, split_pos n m))))

enough : (d g : ℕ) → Enough d g
unfolding subtree_length_within
enough zero zero s e n b l i p q = refl
enough zero (suc g) s e n b l i p q = rw (whole_is s e n (omega arith) (omega arith)) refl
enough (suc d) zero s e n b l i p q = rw (whole_is s e n (omega arith) (omega arith)) refl
enough (suc d) (suc g) s e n b l i p q = more_enough d g (enough d g) s e n b l i p q (part s e n l i)

pub length-whole : (s e n : ℕ) (b : Bool) → s < e → s ≡ 0 → e ≡ n → subtree_length s e n b ≡ cond b 0 1
unfolding subtree_length subtree_length_within
length-whole s e n b l z f =
    enough n (suc n) s e n b l (omega arith) (omega arith) (omega arith)
    ∙ rw (whole_is s e n z (omega arith)) refl

pub length-left : (s e n : ℕ) (b : Bool) → s < e → e ≤ n → 1 < n → is_whole s e n ≡ false → e ≤ split n
    → subtree_length s e n b ≡ suc (subtree_length s e (split n) b)
unfolding subtree_length subtree_length_within
length-left s e n b l i m w low =
    enough n (suc n) s e n b l i (omega arith) (omega arith)
    ∙ rw (w, le-ltb (split n) e low) (ap suc (enough n (split n) s e (split n) b l low (omega (arith, split_lt n m)) (omega arith)))

pub length-right : (s e n : ℕ) (b : Bool) → s < e → e ≤ n → 1 < n → is_whole s e n ≡ false → split n ≤ s
    → subtree_length s e n b ≡ suc (subtree_length (s - split n) (e - split n) (n - split n) b)
unfolding subtree_length subtree_length_within
length-right s e n b l i m w high =
    let over : split n < e = omega arith in
    enough n (suc n) s e n b l i (omega arith) (omega arith)
    ∙ rw (w, lt-ltb (split n) e over, le-ltb s (split n) high)
    (ap suc (enough n (n - split n) (s - split n) (e - split n) (n - split n) b (omega arith) (omega arith) (omega arith) (omega arith)))

pub length-both : (s e n : ℕ) (b : Bool) → s < e → e ≤ n → 1 < n → is_whole s e n ≡ false → s < split n → split n < e
    → subtree_length s e n b ≡ suc (subtree_length 0 (e - split n) (n - split n) false)
unfolding subtree_length subtree_length_within
length-both s e n b l i m w before over =
    enough n (suc n) s e n b l i (omega arith) (omega arith)
    ∙ rw (w, lt-ltb (split n) e over, lt-ltb s (split n) before)
    (ap suc (enough n (n - split n) 0 (e - split n) (n - split n) false (omega arith) (omega arith) (omega arith) (omega arith)))
