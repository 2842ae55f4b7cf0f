-- The steps on the two copies keep the rule: all shown versions belong to one line.
use Rattle.std.proofs.Common.{◌≡◌, ◌≢◌, ℕ, List, set, refl, ap, sym, ◌∙◌, subst, ⊎_elim}
use Rattle.std.proofs.lemmas.Option.{same_Some, none-some}
use Rattle.std.specs.Prelude.{Option, Some, None}
use mathlib.Core.Option.{some}
use lib.ListN.{get_elem?}
use Rattle.left_right.specs.Register.{Admits, TurnsAt, Forks, Merges}
use Rattle.atomic_table.proofs.Lists.{at_set, at_snoc}
use Rattle.ct_house.specs.Publications.{Reach, series_of}
use Rattle.ct_house.specs.Sights.{AllFit, Fits, Sees}

none_fits : (x : Reach) → Fits x None
none_fits x r e = absurd (none-some r e)

some_fits : (x y : Reach) → series_of y ≡ series_of x → Fits x (Some y)
some_fits x y same r e = ap series_of (sym (same_Some y r e)) ∙ same

set_fit : (x : Reach) (views : List (Option Reach)) (seat : ℕ) (v : Option Reach) → AllFit x views → Fits x v → AllFit x (set views seat v)
set_fit x views seat v h fits j u e = ⊎_elim (λ (t : (j ≡ seat) × (v ≡ u)). subst (Fits x) t.1 fits)
    (λ (t : (j ≢ seat) × (get_elem? views j ≡ some u)). h j u t.1) (at_set views seat j v u e)

pub admits : Admits AllFit None
admits x views h seat v at = ⊎_elim (h seat v) (λ (e : None ≡ v). subst (Fits x) e (none_fits x)) (at_snoc views None v seat at)

pub turns : (seat : ℕ) (v : Option Reach) (x y : Reach) → series_of y ≡ series_of x → TurnsAt AllFit seat v x y Sees
turns seat v x y same views h at = (
  Some y,
  set_fit y views seat (Some y) (λ j u e r is. h j u e r is ∙ sym same) (some_fits y y refl),
  (refl, λ r is. h seat v at r is ∙ sym same),
)

pub forks : (seat : ℕ) (v : Option Reach) → Forks AllFit seat v v v
forks seat v x views h at j u e = ⊎_elim (set_fit x views seat v h (h seat v at) j u) (λ (same : v ≡ u). subst (Fits x) same (h seat v at))
    (at_snoc (set views seat v) v u j e)

pub merges : (seat : ℕ) (v : Option Reach) (other : ℕ) (w : Option Reach) → Merges AllFit seat v other w w None
merges seat v other w x views h at apart there =
    let b : Fits x w = ⊎_elim (λ (t : (other ≡ seat) × (w ≡ w)). absurd (apart t.0))
    (λ (t : (other ≢ seat) × (get_elem? views other ≡ some w)). h other w t.1) (at_set views seat other w w there) in
    set_fit x (set views seat w) other None (set_fit x views seat w h b) (none_fits x)
