-- A front's tasks for its lines, and its answers.
use Rattle.std.specs.Prelude.{◌≡◌, ◌≤◌, ◌⊎◌, ℕ, List, map, Option, Some, None, true}
use Rattle.ct_codec.specs.Submitted.{Submitted, x509, precert, refusal_of}
use Rattle.ct_codec.specs.declared.refusal.Refusal.{Refusal}
use Rattle.ct_codec.specs.declared.refusal.Refusal.TheVariants.{Memory, Late, Closed}
use Rattle.ct_core.specs.Settlement.{Log, Lawful}
use Rattle.ct_core.specs.Answers.{answer}
use Rattle.ct_core.specs.Replies.{Answer, a_head, a_ticket, a_reached_size, refused, takes_memory}
use Rattle.ct_core.specs.declared.query.Query.{Query}
use Rattle.ct_core.specs.declared.query.Query.TheVariants.{GetSth}
use Rattle.ct_gate.specs.Ends.{IntakeView, SameIntake}
use Rattle.ct_gate.specs.Sending.{Accepts, Refuses}
use Rattle.ct_house.specs.House.{FrontView}
use Rattle.ct_house.specs.Sights.{Moves}
use Rattle.ct_tree.specs.declared.head.Head.{Head}
use Rattle.ct_workers.specs.InTurn.{Serves}
use Rattle.ct_lines.specs.declared.request.FrontRequest.{FrontRequest}
use Rattle.ct_lines.specs.declared.request.FrontRequest.TheVariants.{AddChain, AddPreChain, AwaitSize, Ask}

-- a submission is accepted, and its ticket is the answer; or it is refused, the refusal is the answer, and nothing was accepted
abbrev pub HandsIn : IntakeView → Submitted → Answer → IntakeView → Type 0
HandsIn a s (a_ticket n) b = SameIntake a b × Accepts a s n b
HandsIn a s (refused e) b = SameIntake a b × Refuses a e b × (b.accepted ≡ a.accepted)
HandsIn a s _ b = ⊥

-- the same, unless there is a refusal in advance: then that is the answer, and nothing was done
abbrev pub HandsInUnless : Option Refusal → FrontView → Submitted → Answer → FrontView → Type 0
HandsInUnless (Some e) a s r b = (r ≡ refused e) × (b ≡ a)
HandsInUnless None a s r b = HandsIn a.intake s r b.intake

-- the submission of a certificate or a precertificate, with its chain
abbrev pub Submits : FrontView → Submitted → Answer → FrontView → Type 0
Submits a s r b = HandsInUnless (refusal_of s) a s r b

-- the front looked at the published log: its intake is unchanged, and the state that it had seen is a prefix of the one that it has seen
-- now
pub record Looks (a b : FrontView) : Type 0 where
  pub intake : b.intake ≡ a.intake
  pub moves : Moves a.sight b.sight

-- The defined answer to a query at this lawful state; or `Memory`, which is only possible if the answer takes memory; or `Closed`, if no
-- state is shown.
pub record Shows (p : Log) (q : Query) (r : Answer) : Type 0 where
  pub lawful : Lawful p
  pub shown : ((r ≡ refused Memory) × (takes_memory (answer p q) ≡ true)) ⊎ ((r ≡ refused Closed) ⊎ (r ≡ answer p q))

-- the head of this lawful state has at least this size, and the size waited for is the answer; or the wait was too long (`Late`), or no
-- state is shown (`Closed`)
abbrev pub Awaits : Log → ℕ → Answer → Type 0
Awaits p n (a_reached_size m) = (m ≡ n) × ((h : Head) × Shows p GetSth (a_head h) × (n ≤ h.tree_size))
Awaits p n (refused e) = (e ≡ Late) ⊎ (e ≡ Closed)
Awaits p n _ = ⊥

-- A front does a task, with this answer. A submission leaves the state that the front has seen unchanged. Other tasks are answered from the
-- state that it has seen by then.
abbrev pub FrontDoes : FrontView → FrontRequest → Answer → FrontView → Type 0
FrontDoes a (AddChain chain) r b = Submits a (x509 (map (λ c. c.items) chain.items)) r b × (b.sight ≡ a.sight)
FrontDoes a (AddPreChain hash tbs chain) r b = Submits a (precert hash tbs.items (map (λ c. c.items) chain.items)) r b × (b.sight ≡ a.sight)
FrontDoes a (AwaitSize n) r b = Awaits b.sight.seen n r × Looks a b
FrontDoes a (Ask q) r b = Shows b.sight.seen q r × Looks a b

-- The front has the same gate, number, ring and capacity (`same`). It never goes back: the state that it had seen is a prefix of the one
-- that it has seen now (`moves`). If it knew of the shutdown, it knows of it now (`shutdown`), so it answers `shutdown` from then on.
pub record FrontGoesOn (a b : FrontView) : Type 0 where
  pub same : SameIntake a.intake b.intake
  pub moves : Moves a.sight b.sight
  pub shutdown : a.intake.knows_shutdown ≡ true → b.intake.knows_shutdown ≡ true

-- a front does its tasks in turn, and the lines of its answers follow the text written before
abbrev pub FrontServes : FrontView → List FrontRequest → List ℕ → FrontView → List ℕ → Type 0
FrontServes a ts before b text = Serves FrontDoes a ts before b text
