-- The consequences for a follower if its subtrees are extended, or are not extended.
use Rattle.std.proofs.Common.{◌≡◌, ◌∙◌, ◌+◌, ◌<◌, ◌^◌, ℕ, List, ◌++◌, length, map, Ok, Err, Result, IfOk, IfErr, sym}
use Rattle.std.proofs.lemmas.List.{length-append}
use Rattle.ct_tree.specs.Stack.{Stands}
use Rattle.ct_tree.specs.Tree.{hash_leaf, mth_of_leaves}
use Rattle.ct_tree.specs.declared.head.Head.{Head}
use Rattle.ct_monitor.specs.Followed.{Followed}
use Rattle.ct_monitor.specs.FollowerState.{FollowerState, Follows, keeping}
use Rattle.ct_monitor.specs.Extended.{IsNoRoot}
use Rattle.ct_monitor.specs.Heads.{IsHeadOfAll}
use Rattle.ct_monitor.specs.Observed.{IsInOrder, IsCounted, RefusesHead}
use Rattle.ct_monitor.specs.declared.fault.MonitorFault.{MonitorFault}
use Rattle.ct_monitor.specs.declared.fault.MonitorFault.TheVariants.{RootMismatch, Shrunk, Fork, TimeNotLater, CountMismatch, Memory}

pub refused_at_last : (H : List ℕ → List ℕ) (old : Followed) (head : Head) (E : List (List ℕ)) (fault : MonitorFault)
    → IsInOrder old head × IsCounted old head E
    → IsNoRoot H (old.leaves ++ E) head.root fault → RefusesHead H old head E fault
refused_at_last H old head E RootMismatch o n = (o.0, o.1, n)
refused_at_last H old head E Shrunk o n = absurd n
refused_at_last H old head E Fork o n = absurd n
refused_at_last H old head E TimeNotLater o n = absurd n
refused_at_last H old head E CountMismatch o n = absurd n
refused_at_last H old head E Memory o n = o

-- The three results of `longer`; n is the number of the new leaves E, as a slice counts them.
pub stands_for_all : {P F : Type 0} (H : List ℕ → List ℕ) (state : FollowerState) (E : List (List ℕ)) (n : ℕ) (seen : P → ℕ × List (List ℕ)) (r : Result P F)
    → ((D : List (List ℕ)) → Follows H state D → length D + n < 2 ^ 64)
    → IfOk r (λ p. (D : List (List ℕ)) → length D + n < 2 ^ 64 → Stands H state.peaks (map (hash_leaf H) D) → Stands H (seen p) (map (hash_leaf H) (D ++ E)))
    → IfOk r (λ p. (D : List (List ℕ)) → Follows H state D → Stands H (seen p) (map (hash_leaf H) (D ++ E)))
stands_for_all H state E n seen (Ok p) few s = λ D f. s D (few D f) f.0
stands_for_all H state E n seen (Err e) few s = s

pub head_of_all : {P F : Type 0} (H : List ℕ → List ℕ) (state : FollowerState) (head : Head) (E : List (List ℕ)) (n : ℕ) (r : Result P F)
    → ((D : List (List ℕ)) → Follows H state D → length D + n < 2 ^ 64)
    → ((D : List (List ℕ)) → Follows H state D → IsCounted (keeping D state) head E)
    → IfOk r (λ p. (D : List (List ℕ)) → length D + n < 2 ^ 64 → Stands H state.peaks (map (hash_leaf H) D) → head.root ≡ mth_of_leaves H (D ++ E))
    → IfOk r (λ p. (D : List (List ℕ)) → Follows H state D → IsHeadOfAll H (D ++ E) head)
head_of_all H state head E n (Ok p) few counted s = λ D f. (sym (length-append D E ∙ counted D f), s D (few D f) f.0)
head_of_all H state head E n (Err e) few counted s = s

pub refused_for_all : {P : Type 0} (H : List ℕ → List ℕ) (state : FollowerState) (head : Head) (E : List (List ℕ)) (n : ℕ) (r : Result P MonitorFault)
    → ((D : List (List ℕ)) → Follows H state D → length D + n < 2 ^ 64)
    → ((D : List (List ℕ)) → Follows H state D → IsInOrder (keeping D state) head × IsCounted (keeping D state) head E)
    → IfErr r (λ v. (D : List (List ℕ)) → length D + n < 2 ^ 64 → Stands H state.peaks (map (hash_leaf H) D) → IsNoRoot H (D ++ E) head.root v)
    → IfErr r (λ v. (D : List (List ℕ)) → Follows H state D → RefusesHead H (keeping D state) head E v)
refused_for_all H state head E n (Ok p) few o s = s
refused_for_all H state head E n (Err v) few o s = λ D f. refused_at_last H (keeping D state) head E v (o D f) (s D (few D f) f.0)
