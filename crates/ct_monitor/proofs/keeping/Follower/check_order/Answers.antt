use Rattle.std.proofs.Common.{◌≡◌, ◌∙◌, Vec, ℕ, List, length, arith, ap}
use Rattle.std.proofs.lemmas.Bool.{both_ways}
use Rattle.std.proofs.lemmas.List.{length-map}
use Rattle.ct_tree.specs.Tree.{hash_leaf}
use Rattle.ct_monitor.specs.FollowerState.{FollowerState}
use Rattle.ct_monitor.proofs.keeping.Follower.check_order.Goals as goal

abbrev bytes : {A : Type 0} → Vec ℕ A → List ℕ
bytes l = l.items

abbrev size : FollowerState → ℕ
size s = s.peaks.0

pub returns-then-head-count-clause-in_order : goal.returns-then-head-count-clause-in_order
returns-then-head-count-clause-in_order g c D f =
    let n : c.size-count.result ≡ length D = c.size-count.ensures ∙ ap size c.self.view_is ∙ f.0.size ∙ length-map D (hash_leaf g.H.NodeHash.digest) in
    omega (arith, c.if-head-count.true, n)

pub returns-then-forks-clause-in_order : goal.returns-then-forks-clause-in_order
returns-then-forks-clause-in_order g c D f =
    let n : c.size-count.result ≡ length D = c.size-count.ensures ∙ ap size c.self.view_is ∙ f.0.size ∙ length-map D (hash_leaf g.H.NodeHash.digest) in
    (omega (arith, c.if-head-count.false, n), rw (← c.self.view_is) (c.forks.ensures.0 c.if-forks.true))

pub returns-then-is_not_later-clause-in_order : goal.returns-then-is_not_later-clause-in_order
returns-then-is_not_later-clause-in_order g c D f =
    let n : c.size-count.result ≡ length D = c.size-count.ensures ∙ ap size c.self.view_is ∙ f.0.size ∙ length-map D (hash_leaf g.H.NodeHash.digest) in (
      omega (arith, c.if-head-count.false, n),
      rw (← c.self.view_is) (λ x. both_ways c.forks.result c.if-forks.false (c.forks.ensures.1 x)),
      rw (← c.self.view_is) (c.is_not_later.ensures.0 c.if-is_not_later.true),
    )

pub returns-then-head-count-2-clause-in_order : goal.returns-then-head-count-2-clause-in_order
returns-then-head-count-2-clause-in_order g c D f =
    let n : c.size-count.result ≡ length D = c.size-count.ensures ∙ ap size c.self.view_is ∙ f.0.size ∙ length-map D (hash_leaf g.H.NodeHash.digest) in
    let m = length-map c.args.new_entries.now bytes in (
      (
        omega (arith, c.if-head-count.false, n),
        rw (← c.self.view_is) (λ x. both_ways c.forks.result c.if-forks.false (c.forks.ensures.1 x)),
        rw (← c.self.view_is) (λ x. both_ways c.is_not_later.result c.if-is_not_later.false (c.is_not_later.ensures.1 x)),
      ),
      λ e. c.if-head-count-2.true (omega (arith, c.if-head-count.false, n, m, e)),
    )

pub returns-clause-in_order : goal.returns-clause-in_order
returns-clause-in_order g c D f =
    let n : c.size-count.result ≡ length D = c.size-count.ensures ∙ ap size c.self.view_is ∙ f.0.size ∙ length-map D (hash_leaf g.H.NodeHash.digest) in
    let m = length-map c.args.new_entries.now bytes in (
      (
        omega (arith, c.if-head-count.false, n),
        rw (← c.self.view_is) (λ x. both_ways c.forks.result c.if-forks.false (c.forks.ensures.1 x)),
        rw (← c.self.view_is) (λ x. both_ways c.is_not_later.result c.if-is_not_later.false (c.is_not_later.ensures.1 x)),
      ),
      omega (arith, c.if-head-count.false, c.if-head-count-2.false, n, m),
    )
