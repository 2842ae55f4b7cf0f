use Rattle.std.proofs.Common.{◌≡◌, ◌+◌, ◌-◌, ◌^◌, ◌<◌, ◌∙◌, ℕ, List, Vec, Global, length, map, take, arith, sym, ap, subst}
use Rattle.std.proofs.lemmas.List.{length-take-le}
use Rattle.ct_tree.specs.Stack.{Stands}
use Rattle.ct_tree.specs.Tree.{hash_leaf}
use Rattle.ct_monitor.specs.Watched.{leaves_read}
use Rattle.ct_monitor.proofs.Steps.{as_far_as, keeps_read_on, stands_read_on}
use Rattle.ct_monitor.proofs.watcher.Watcher.longer.Goals as goal

abbrev bytes : Vec ℕ Global → List ℕ
bytes l = l.items

pub returns-clause-stands : goal.returns-clause-stands
returns-clause-stands g c D d =
    let H = g.H.NodeHash.digest in
    let leaves = c.args.leaves.now in
    let n = c.room_for-count.result in
    let old = c.args.self.now.all in
    let read : c.size-read.result ≡ old.0 = c.size-read.ensures ∙ ap (λ s. s.all.0) c.self.view_is in
    let same : c.in_ok-longer.longer ≡ old = c.in_ok-longer.ensures ∙ ap (λ s. s.all) c.self.view_is in
    let L = map (hash_leaf H) D in
    let size : length (take n leaves) ≡ n = length-take-le n leaves (omega (arith, c.room_for-count.ensures.fits)) in
    let few : length L + length (take n leaves) < 2 ^ 64 = omega (arith, c.room_for-count.ensures.few, read, d.size, size) in
    let t = as_far_as leaves n (c.args.head.tree_size - old.0) (rw (← read) c.room_for-count.ensures.as_far) in
    stands_read_on H old D c.args.head (map bytes leaves) (map bytes (take n leaves)) c.push_leaves.new.self d t
    (c.in_ok-push_leaves.ensures L few (subst (λ s. Stands H s L) (sym same) d))

pub returns-clause-keeps : goal.returns-clause-keeps
returns-clause-keeps g c w k =
    keeps_read_on g.H.NodeHash.digest c.args.self.now w c.args.head (map bytes c.args.leaves.now) c.push_leaves.new.self k
    (returns-clause-stands g c (leaves_read w) k.all)
