use Rattle.std.proofs.Common.{Vec, ℕ, List, length, map}
use Rattle.std.proofs.lemmas.Result.{IfOk-weaker, err_from_is_err_and}
use Rattle.ct_monitor.proofs.Refused.{stands_for_all, head_of_all, refused_for_all}
use Rattle.ct_monitor.proofs.keeping.Follower.longer.Goals as goal

abbrev bytes : {A : Type 0} → Vec ℕ A → List ℕ
bytes l = l.items

pub returns-in_err-check_order-clause-refused : goal.returns-in_err-check_order-clause-refused
returns-in_err-check_order-clause-refused g c =
    let p = err_from_is_err_and c.from_residual.result c.from_residual.ensures.1 in
    rw (p.1, p.2) c.in_err-check_order.ensures.in_order

pub returns-clause-in_order : goal.returns-clause-in_order
returns-clause-in_order g c =
    IfOk-weaker c.extended.result _ _ (λ p s. c.in_ok-check_order.ensures.in_order) c.extended.ensures.stands

pub returns-clause-root_of_any : goal.returns-clause-root_of_any
returns-clause-root_of_any g c = rw (← c.self.view_is) c.extended.ensures.root

pub returns-clause-stands : goal.returns-clause-stands
returns-clause-stands g c =
    stands_for_all g.H.NodeHash.digest c.args.self.now (map bytes c.args.new_entries.now) (length c.args.new_entries.now) (λ p. p) c.extended.result
    c.in_ok-check_order.ensures.few (rw (← c.self.view_is) c.extended.ensures.stands)

pub returns-clause-root : goal.returns-clause-root
returns-clause-root g c =
    head_of_all g.H.NodeHash.digest c.args.self.now c.args.head.now (map bytes c.args.new_entries.now) (length c.args.new_entries.now) c.extended.result
    c.in_ok-check_order.ensures.few (λ D f. (c.in_ok-check_order.ensures.in_order D f).1) (rw (← c.self.view_is) c.extended.ensures.root)

pub returns-clause-refused : goal.returns-clause-refused
returns-clause-refused g c =
    refused_for_all g.H.NodeHash.digest c.args.self.now c.args.head.now (map bytes c.args.new_entries.now) (length c.args.new_entries.now) c.extended.result
    c.in_ok-check_order.ensures.few c.in_ok-check_order.ensures.in_order (rw (← c.self.view_is) c.extended.ensures.no_root)
