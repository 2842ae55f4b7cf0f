use Rattle.std.proofs.Common.{◌≡◌, List, length, Result, Ok, Err, sym, ap, subst, ◌∙◌, All}
use Rattle.std.specs.Prelude.{IfOk, IfErr}
use Rattle.std.specs.Vec.{with_items}
use Rattle.std.proofs.lemmas.List.{with_items_is}
use Rattle.ct_house.specs.House.{HouseName, HouseState, FrontView, IsOfHouse}
use Rattle.house_tests.proofs.sixteen_fronts.Crowd.finish.Goals as goal

-- a fact that follows from a call's result, whether it succeeded or not
either : {T E : Type 0} (r : Result T E) (P : T → Type 0) (Q : E → Type 0) (X : Type 0) → ((x : T) → P x → X) → ((e : E) → Q e → X) → IfOk r P → IfErr r Q → X
either (Ok x) P Q X f g p q = f x p
either (Err e) P Q X f g p q = g e q

pub closed-requires : goal.closed-requires
closed-requires g c =
    let v = c.retire_all-ends.result.0 in
    let ends = c.settle.new.ends in
    let before : ends ≡ v.items = c.settle.ensures.ends ∙ c.deref_mut.ensures.value in
    let same : (with_items v ends).items ≡ ends = with_items_is v ends (ap length before ∙ sym v.ok.0) in
    let published : c.publish.new.self.house ≡ c.settle.new.self.house =
    either c.publish.result _ _ (c.publish.new.self.house ≡ c.settle.new.self.house) (λ h p. ap (λ (s : HouseState). s.house) p.1)
    (λ e p. ap (λ (s : HouseState). s.house) p.1) c.publish.ensures.head c.publish.ensures.refused in
    let house : c.publish.new.self.house ≡ c.args.self.house.house = published ∙ c.settle.ensures.settled.1.house in
    subst (λ (l : List FrontView). All (IsOfHouse c.publish.new.self.house) l) (sym (same ∙ before))
    (subst (λ (h : HouseName). All (IsOfHouse h) v.items) (sym house) c.retire_all-ends.ensures)
