-- The heads that a watcher accepted over many answers, including answers in later runs that began with the saved state.
use Rattle.std.specs.Prelude.{◌≡◌, ◌⊎◌, ⊤, ℕ, List, [], ◌∷◌, take, Some, All}
use Rattle.ct_tree.specs.declared.head.Head.{Head}
use Rattle.ct_monitor.specs.Heads.{IsHeadOfAll}
use Rattle.ct_monitor.specs.Watched.{Watched, after_head, nothing_seen}
use Rattle.ct_monitor.specs.Verdicts.{HeadSays, EntriesSay, after_entries}
use Rattle.ct_monitor.specs.declared.verdict.Verdict.{Verdict}
use Rattle.ct_monitor.specs.declared.verdict.Verdict.TheVariants.{Accepted}

-- the verdict is that the waiting head is accepted
abbrev pub SaysAccepted : Verdict → Type 0
SaysAccepted Accepted = ⊤
SaysAccepted v = ⊥

-- a head or entries, their verdict v, and the data that was handed out up to then (a proof changes nothing)
abbrev pub IsStep : (List ℕ → List ℕ) → Watched → Verdict → Watched → Type 0
IsStep H w v next = ((head : Head) × HeadSays H w head v × (next ≡ after_head w head v))
    ⊎ ((start : ℕ) × (E : List (List ℕ)) × EntriesSay H w w.waiting start E v × (next ≡ after_entries w w.waiting E v))

-- steps, one after the other
unfoldable pub AreSteps : (List ℕ → List ℕ) → Watched → List (Verdict × Watched) → Type 0
AreSteps H w [] = ⊤
AreSteps H w (s ∷ steps) = IsStep H w s.0 s.1 × AreSteps H s.1 steps

-- the data that was handed out up to the last of these steps
abbrev pub after_steps : Watched → List (Verdict × Watched) → Watched
after_steps w [] = w
after_steps w (s ∷ steps) = after_steps s.1 steps

-- if a step accepted a head, it is the head of the first leaves of D
abbrev pub IsOfBeginning : (List ℕ → List ℕ) → List (List ℕ) → Verdict × Watched → Type 0
IsOfBeginning H D s = SaysAccepted s.0 → (head : Head) × (n : ℕ) × (s.1.accepted ≡ Some head) × IsHeadOfAll H (take n D) head

-- From the first answer on, each accepted head is the head of a prefix of one list of leaves: the leaves that the log has handed out and
-- that are accepted after the last step.
abbrev pub AcceptedHeadsAgree : Type 0
AcceptedHeadsAgree = (H : List ℕ → List ℕ) (steps : List (Verdict × Watched)) → AreSteps H nothing_seen steps
    → All (IsOfBeginning H (after_steps nothing_seen steps).sure) steps
