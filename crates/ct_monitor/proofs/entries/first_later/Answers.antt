use Rattle.std.proofs.Common.{ℕ, List, [], Vec, Global, All, map, subst, arith}
use Rattle.std.proofs.lemmas.List.{length-map, take_all}
use Rattle.std.proofs.lemmas.List.Elements.{All-more}
use Rattle.ct_monitor.specs.Entries.{IsNoLaterThan}
use Rattle.ct_monitor.proofs.entries.first_later.Goals as goal

abbrev bytes : Vec ℕ Global → List ℕ
bytes l = l.items

pub loop-i-preserved : goal.loop-i-preserved
loop-i-preserved c =
    let leaves = c.args.leaves.now in
    All-more (IsNoLaterThan c.args.moment) (map bytes leaves) c.loop-i.i [] (omega (arith, c.loop-i-test.true, length-map leaves bytes)) c.loop-i.invariant c.in_default.ensures

pub returns : goal.returns
returns c =
    let leaves = c.args.leaves.now in
    subst (All (IsNoLaterThan c.args.moment)) (take_all c.loop-i.i (map bytes leaves) (omega (arith, c.loop-i-test.false, length-map leaves bytes))) c.loop-i.invariant
