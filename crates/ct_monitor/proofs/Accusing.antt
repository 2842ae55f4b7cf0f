-- A head is accused exactly if it contradicts a known head, or the leaves.
use Rattle.std.proofs.Common.{◌≡◌, ◌⊎◌, ◌↔◌, ◌∙◌, ◌<◌, ◌≤◌, Bool, true, false, true≢false, ℕ, List, Option, Some, None, sym, refl, ap, subst, arith, inl, inr}
use Rattle.ct_tree.specs.declared.head.Head.{Head}
use Rattle.ct_monitor.specs.Accusations.{IsOfTree, IsKnown, IsContradicted, HeadsAreAccusedExactly}
use Rattle.ct_monitor.specs.CallLaws.{IsHandedOut}
use Rattle.ct_monitor.specs.Fitting.{NewestFits}
use Rattle.ct_monitor.specs.Heads.{at_timestamp}
use Rattle.ct_monitor.specs.Verdicts.{Contradict, HeadSays, IsGrownLater, IsGrownLaterThanBoth, IsNotAccused, IsSaid, KnownSay, WaitingSays, accuses}
use Rattle.ct_monitor.specs.Watched.{Watched, waiting_or}
use Rattle.ct_monitor.specs.declared.verdict.Verdict.{Verdict}
use Rattle.ct_monitor.specs.declared.verdict.Verdict.TheVariants.{Accepted, Pending, Again, Older, Shrunk, Fork, TimeNotLater, RootMismatch, Gap, Consistent, Inconsistent}

-- a head of a known tree
record OfTree (known : Head) (newest : ℕ) (head : Head) : Type 0 where
  pub size : head.tree_size ≡ known.tree_size
  pub root : head.root ≡ known.root
  pub from : known.timestamp ≤ head.timestamp
  pub to : head.timestamp ≤ newest

of_tree : (known : Head) (newest : ℕ) (head : Head) → known.timestamp ≤ newest → IsOfTree (Some known) newest head → OfTree known newest head
of_tree known newest head f (inl e) = subst (OfTree known newest) (sym e) (record { size = refl; root = refl; from = omega arith; to = f })
of_tree known newest head f (inr e) = subst (OfTree known newest) (sym e) (record { size = refl; root = refl; from = f; to = omega arith })

-- ---- an accusation names a known head that contradicts the head

said_contradicts : (known : Head) (newest : ℕ) (head : Head) (v : Verdict) → IsSaid (Some known) newest head v → accuses v ≡ true
    → (k : Head) × IsOfTree (Some known) newest k × Contradict k head
said_contradicts known newest head (Shrunk other) s a = (known, inl refl, inr (inr (s.1, s.2)))
said_contradicts known newest head (Fork other) s a = (known, inl refl, inl (sym s.1, λ e. s.2 (sym e)))
said_contradicts known newest head (TimeNotLater other) s a = (at_timestamp known newest, inr refl, inr (inl (s.1, s.2)))
said_contradicts known newest head (Older other) s a = absurd (true≢false (sym a))
said_contradicts known newest head Again s a = absurd (true≢false (sym a))
said_contradicts known newest head Accepted s a = absurd s
said_contradicts known newest head Pending s a = absurd s
said_contradicts known newest head (RootMismatch root) s a = absurd s
said_contradicts known newest head Gap s a = absurd s
said_contradicts known newest head Consistent s a = absurd s
said_contradicts known newest head (Inconsistent fault) s a = absurd s

some_contradicts : (known : Option Head) (newest : ℕ) (head : Head) (v : Verdict) → IsSaid known newest head v → accuses v ≡ true
    → (k : Head) × IsOfTree known newest k × Contradict k head
some_contradicts None newest head v s a = absurd s
some_contradicts (Some known) newest head v s a = said_contradicts known newest head v s a

-- ---- a known head that contradicts the head accuses

older_not_contradicted : (known : Head) (newest : ℕ) (head k : Head) → OfTree known newest k → head.tree_size < known.tree_size
    → head.timestamp < known.timestamp → Contradict k head → ⊥
older_not_contradicted known newest head k t less before (inl c) = absurd (omega (arith, t.size, less, c.0))
older_not_contradicted known newest head k t less before (inr (inl c)) = absurd (omega (arith, t.size, less, c.0))
older_not_contradicted known newest head k t less before (inr (inr c)) = absurd (omega (arith, t.from, before, c.1))

again_not_contradicted : (known : Head) (newest : ℕ) (head k : Head) → OfTree known newest k → head.tree_size ≡ known.tree_size → head.root ≡ known.root
    → Contradict k head → ⊥
again_not_contradicted known newest head k t same root (inl c) = c.1 (t.root ∙ sym root)
again_not_contradicted known newest head k t same root (inr (inl c)) = absurd (omega (arith, t.size, same, c.0))
again_not_contradicted known newest head k t same root (inr (inr c)) = absurd (omega (arith, t.size, same, c.0))

grown_not_contradicted : (known : Head) (newest : ℕ) (head k : Head) → OfTree known newest k → known.tree_size < head.tree_size → newest < head.timestamp
    → Contradict k head → ⊥
grown_not_contradicted known newest head k t less later (inl c) = absurd (omega (arith, t.size, less, c.0))
grown_not_contradicted known newest head k t less later (inr (inl c)) = absurd (omega (arith, t.to, later, c.1))
grown_not_contradicted known newest head k t less later (inr (inr c)) = absurd (omega (arith, t.size, less, c.0))

said_accuses : (known : Head) (newest : ℕ) (head k : Head) (v : Verdict) → OfTree known newest k → Contradict k head → IsSaid (Some known) newest head v
    → accuses v ≡ true
said_accuses known newest head k (Shrunk other) t c s = refl
said_accuses known newest head k (Fork other) t c s = refl
said_accuses known newest head k (TimeNotLater other) t c s = refl
said_accuses known newest head k (Older other) t c s = absurd (older_not_contradicted known newest head k t s.1 s.2 c)
said_accuses known newest head k Again t c s = absurd (again_not_contradicted known newest head k t s.0 s.1 c)
said_accuses known newest head k Accepted t c s = absurd s
said_accuses known newest head k Pending t c s = absurd s
said_accuses known newest head k (RootMismatch root) t c s = absurd s
said_accuses known newest head k Gap t c s = absurd s
said_accuses known newest head k Consistent t c s = absurd s
said_accuses known newest head k (Inconsistent fault) t c s = absurd s

-- the same of a known head, if there is one
some_accuses : (known : Option Head) (newest : ℕ) (head k : Head) (v : Verdict) → NewestFits known newest → IsOfTree known newest k → Contradict k head
    → IsSaid known newest head v → accuses v ≡ true
some_accuses None newest head k v f t c s = absurd s
some_accuses (Some known) newest head k v f t c s = said_accuses known newest head k v (of_tree known newest k f t) c s

not_grown : (known : Option Head) (newest : ℕ) (head k : Head) → NewestFits known newest → IsOfTree known newest k → Contradict k head
    → IsGrownLater known newest head → ⊥
not_grown None newest head k f t c g = t
not_grown (Some known) newest head k f t c g = grown_not_contradicted known newest head k (of_tree known newest k f t) g.0 g.1 c

is_accused : (known : Option Head) (newest : ℕ) (head k : Head) → NewestFits known newest → IsOfTree known newest k → Contradict k head
    → IsNotAccused known newest head → ⊥
is_accused known newest head k f t c (inl g) = not_grown known newest head k f t c g
is_accused known newest head k f t c (inr (v, s, e)) = true≢false (sym (some_accuses known newest head k v f t c s) ∙ e)

-- ---- the verdict on a head

to_contradicted : (H : List ℕ → List ℕ) (w : Watched) (head : Head) (v : Verdict) → HeadSays H w head v → accuses v ≡ true
    → IsContradicted w head ⊎ ((root : List ℕ) × (v ≡ RootMismatch root))
to_contradicted H w head v (inl (inl s)) a =
    let k = some_contradicts w.accepted w.newest.accepted head v s.0 a in inl (k.0, inl k.1, k.2)
to_contradicted H w head v (inl (inr s)) a =
    let k = some_contradicts w.waiting w.newest.waiting head v s.1 a in inl (k.0, inr k.1, k.2)
to_contradicted H w head (RootMismatch root) (inr s) a = inr (root, refl)
to_contradicted H w head Accepted (inr s) a = absurd (true≢false (sym a))
to_contradicted H w head Pending (inr s) a = absurd (true≢false (sym a))
to_contradicted H w head Again (inr s) a = absurd s.1
to_contradicted H w head (Older known) (inr s) a = absurd s.1
to_contradicted H w head (Shrunk known) (inr s) a = absurd s.1
to_contradicted H w head (Fork known) (inr s) a = absurd s.1
to_contradicted H w head (TimeNotLater known) (inr s) a = absurd s.1
to_contradicted H w head Gap (inr s) a = absurd s.1
to_contradicted H w head Consistent (inr s) a = absurd s.1
to_contradicted H w head (Inconsistent fault) (inr s) a = absurd s.1

from_accepted : (H : List ℕ → List ℕ) (w : Watched) (head k : Head) (v : Verdict) → NewestFits w.accepted w.newest.accepted
    → IsOfTree w.accepted w.newest.accepted k → Contradict k head → HeadSays H w head v → accuses v ≡ true
from_accepted H w head k v f t c (inl (inl s)) = some_accuses w.accepted w.newest.accepted head k v f t c s.0
from_accepted H w head k v f t c (inl (inr s)) = absurd (is_accused w.accepted w.newest.accepted head k f t c s.0)
from_accepted H w head k v f t c (inr s) = absurd (not_grown w.accepted w.newest.accepted head k f t c s.0.0)

from_waiting : (H : List ℕ → List ℕ) (w : Watched) (head k : Head) (v : Verdict) → NewestFits w.waiting w.newest.waiting
    → IsOfTree w.waiting w.newest.waiting k → Contradict k head → HeadSays H w head v → accuses v ≡ true
from_waiting H w head k v f t c (inl (inl (s, inl a))) = a
from_waiting H w head k v f t c (inl (inl (s, inr other))) = absurd (is_accused w.waiting w.newest.waiting head k f t c other)
from_waiting H w head k v f t c (inl (inr s)) = some_accuses w.waiting w.newest.waiting head k v f t c s.1
from_waiting H w head k v f t c (inr s) = absurd (not_grown w.waiting w.newest.waiting head k f t c s.0.1)

to_accused : (H : List ℕ → List ℕ) (w : Watched) (head : Head) (v : Verdict) → IsHandedOut H w → HeadSays H w head v
    → IsContradicted w head ⊎ ((root : List ℕ) × (v ≡ RootMismatch root)) → accuses v ≡ true
to_accused H w head v i s (inl (k, inl t, c)) = from_accepted H w head k v i.2 t c s
to_accused H w head v i s (inl (k, inr t, c)) = from_waiting H w head k v i.3 t c s
to_accused H w head v i s (inr (root, e)) = ap accuses e

pub heads_are_accused_exactly : HeadsAreAccusedExactly
heads_are_accused_exactly H w head v i s = (to_contradicted H w head v s, to_accused H w head v i s)
