-- The shutter, intake and outlet as contracts see them.
use Rattle.std.specs.Prelude.{◌≡◌, ℕ, Bool, List, map, Option}
use Rattle.atomic_table.specs.Seated.{TableId}
use Rattle.ct_codec.specs.Submitted.{Submitted}
use Rattle.ct_codec.specs.declared.item.Item.{Item}
use Rattle.ct_gate.specs.Ring.{RingName}

-- A shutter: its gate, the number of fronts of that gate, and, after it shut the gate, how many submissions were accepted.
pub record ShutterView : Type 0 where
  pub gate : TableId
  pub fronts : ℕ
  pub accepted : Option ℕ

-- An intake: its gate, its front's number, its ring, the ring's capacity (`places`), the items accepted so far, whether it knows of the
-- shutdown, and how many free slots of the ring it knows of.
pub record IntakeView : Type 0 where
  pub gate : TableId
  pub number : ℕ
  pub ring : RingName
  pub places : ℕ
  pub accepted : List Item
  pub knows_shutdown : Bool
  pub free : ℕ

-- An outlet: its front's number, its ring, the items received so far, and the items that it has seen in the ring but not taken yet.
pub record OutletView : Type 0 where
  pub number : ℕ
  pub ring : RingName
  pub received : List Item
  pub in_sight : List Item

-- the item made from a submission, its front's number and its ticket
abbrev pub made_item : ℕ → ℕ → Submitted → Item
made_item front ticket s = record { front = front; ticket = ticket; submission = s }

-- the items, with the front's number set in each
abbrev pub from_front : ℕ → List Item → List Item
from_front front items = map (λ i. made_item front i.ticket i.submission) items

-- the shutter has the same gate and the same number of fronts as before
abbrev pub SameShutter : ShutterView → ShutterView → Type 0
SameShutter a b = (b.gate ≡ a.gate) × (b.fronts ≡ a.fronts)

-- the intake has the same gate, front, ring and capacity as before
abbrev pub SameIntake : IntakeView → IntakeView → Type 0
SameIntake a b = (b.gate ≡ a.gate) × (b.number ≡ a.number) × (b.ring ≡ a.ring) × (b.places ≡ a.places)

-- the outlet has the same front and ring as before
abbrev pub SameOutlet : OutletView → OutletView → Type 0
SameOutlet a b = (b.number ≡ a.number) × (b.ring ≡ a.ring)

-- the two are the ends of one front's ring
abbrev pub AreEnds : IntakeView → OutletView → Type 0
AreEnds i o = (o.ring ≡ i.ring) × (o.number ≡ i.number)
