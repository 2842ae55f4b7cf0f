use Rattle.std.proofs.Common.{◌≡◌, ◌∙◌, Vec, ℕ, List, ◌++◌, map, ap, sym}
use Rattle.std.proofs.lemmas.List.{map-append}
use Rattle.std.proofs.lemmas.Result.{err_from_is_err_and}
use Rattle.ct_monitor.proofs.keeping.Monitor.observe_from.Goals as goal

abbrev bytes : {A : Type 0} → Vec ℕ A → List ℕ
bytes l = l.items

pub returns-in_err-longer-clause-refused : goal.returns-in_err-longer-clause-refused
returns-in_err-longer-clause-refused g c =
    let p = err_from_is_err_and c.from_residual.result c.from_residual.ensures.1 in
    rw (p.1, p.2, ← c.deref.ensures.value, ← c.self.view_is) (c.in_err-longer.ensures.refused (map bytes c.self.inside.kept.items) c.self.invariant)

pub returns-in_err-append-clause-refused : goal.returns-in_err-append-clause-refused
returns-in_err-append-clause-refused g c =
    let p = err_from_is_err_and c.from_residual-in_err-append.result c.from_residual-in_err-append.ensures.1 in
    rw (p.1, p.2, ← c.deref.ensures.value, ← c.self.view_is) (c.in_ok-longer.ensures.in_order (map bytes c.self.inside.kept.items) c.self.invariant)

pub invariant_of-self-2 : goal.invariant_of-self-2
invariant_of-self-2 g c =
    let K = c.self.inside.kept.items in
    let E = c.deref.result.now in
    let all : map bytes c.append.new.self.items ≡ map bytes K ++ map bytes E =
    ap (map bytes) (c.in_ok-append.ensures.items ∙ ap (λ u. K ++ u) (sym c.deref.ensures.value)) ∙ map-append bytes K E in (
      rw (all, c.go_on.ensures.peaks) (c.in_ok-longer.ensures.stands (map bytes K) c.self.invariant),
      rw (all, c.go_on.ensures.last_head) (c.in_ok-longer.ensures.root (map bytes K) c.self.invariant),
    )

pub returns-clause-leaves : goal.returns-clause-leaves
returns-clause-leaves g c =
    rw (← c.self.view_is) (ap (map bytes) c.in_ok-append.ensures.items ∙ map-append bytes c.self.inside.kept.items c.args.new_entries.now.items)

pub returns-clause-root : goal.returns-clause-root
returns-clause-root g c =
    let K = c.self.inside.kept.items in
    let E = c.deref.result.now in
    let all : map bytes c.append.new.self.items ≡ map bytes K ++ map bytes E =
    ap (map bytes) (c.in_ok-append.ensures.items ∙ ap (λ u. K ++ u) (sym c.deref.ensures.value)) ∙ map-append bytes K E in
    rw all (c.in_ok-longer.ensures.root (map bytes K) c.self.invariant)

pub returns-clause-in_order : goal.returns-clause-in_order
returns-clause-in_order g c = rw (← c.self.view_is) (c.in_ok-longer.ensures.in_order (map bytes c.self.inside.kept.items) c.self.invariant).0
