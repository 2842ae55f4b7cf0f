-- The outcomes of a send.
use Rattle.std.specs.Prelude.{◌≡◌, ℕ, ◌+◌, ◌^◌, ◌<◌, ◌≤◌, true, false, [], ◌∷◌, ◌++◌, length}
use Rattle.ct_codec.specs.Submitted.{Submitted}
use Rattle.ct_codec.specs.declared.refusal.Refusal.{Refusal}
use Rattle.ct_codec.specs.declared.refusal.Refusal.TheVariants.{Full, Shutdown, FrontSpent}
use Rattle.ct_gate.specs.Ends.{IntakeView, made_item}

-- the submission is accepted with this ticket, fewer than 2 ^ 32 were accepted before, no shutdown is known, and at most one free slot is
-- used
abbrev pub Accepts : IntakeView → Submitted → ℕ → IntakeView → Type 0
Accepts a s ticket b = (b.accepted ≡ a.accepted ++ made_item a.number ticket s ∷ []) × (b.knows_shutdown ≡ false)
    × (length a.accepted < 2 ^ 32) × (a.free ≤ b.free + 1)

-- Why a submission is refused. `Shutdown`: the shutdown is known. `FrontSpent`: no shutdown is known, and 2 ^ 32 submissions of the front
-- were accepted. `Full`: no shutdown is known, fewer than 2 ^ 32 were accepted, at least as many were accepted as the ring has slots, and
-- no free slot of the ring was known before or is known now (a test shows that the intake looks).
abbrev pub Refuses : IntakeView → Refusal → IntakeView → Type 0
Refuses a Full b = (b.knows_shutdown ≡ false) × (length a.accepted < 2 ^ 32) × (a.places ≤ length a.accepted) × (a.free ≡ 0) × (b.free ≡ 0)
Refuses a Shutdown b = b.knows_shutdown ≡ true
Refuses a FrontSpent b = (b.knows_shutdown ≡ false) × (length a.accepted ≡ 2 ^ 32)
Refuses a _ b = ⊥
