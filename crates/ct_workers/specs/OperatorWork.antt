-- The operator's tasks for its lines, and its answers.
use Rattle.std.specs.Prelude.{◌≡◌, ◌≢◌, ◌<◌, ◌≤◌, ◌⊎◌, ℕ, List, length, All, Some, None, nat_lt, MatchBool, Result, MatchResult}
use Rattle.ct_codec.specs.declared.item.Item.{Item}
use Rattle.ct_codec.specs.declared.refusal.Refusal.{Refusal}
use Rattle.ct_codec.specs.declared.refusal.Refusal.TheVariants as refusal
use Rattle.ct_core.specs.Core.{Begins, clock_of, settle_refusal, IsNextHead, IsInTime, after_publishing, publish_refusal}
use Rattle.ct_core.specs.Replies.{Answer, a_settled_count, a_published_head, an_accepted_count, refused}
use Rattle.ct_house.specs.House.{HouseState, SettlesMore}
use Rattle.ct_workers.specs.InTurn.{Serves}
use Rattle.ct_lines.specs.declared.task.OperatorTask.{OperatorTask}
use Rattle.ct_lines.specs.declared.task.OperatorTask.TheVariants.{Sequence, Publish, Shutdown, BadLine}

-- the house continues: it is the same house, and its shutdown and everything settled and published remain
pub record GoesOn (old new : HouseState) : Type 0 where
  pub house : new.house ≡ old.house
  pub count : length new.lanes ≡ length old.lanes
  pub accepted : (n : ℕ) → old.accepted ≡ Some n → new.accepted ≡ Some n
  pub entries : Begins old.core.entries new.core.entries
  pub settlement : Begins old.core.settlement new.core.settlement
  pub heads : Begins old.core.published.heads new.core.published.heads

-- these items of one front were settled at now; none, if now is before the clock
pub record Settling (front now : ℕ) (old new : HouseState) (xs : List Item) : Type 0 where
  pub of_front : All (λ (x : Item). x.front ≡ front) xs
  pub settled : SettlesMore old new xs now
  pub early : now < clock_of old.core → new ≡ old

-- why no more items were settled: none arrived for too long, or the settling was refused in the state reached by then
abbrev pub StopsSettling : ℕ → HouseState → Refusal → Type 0
StopsSettling now old e = (e ≡ refusal.Late) ⊎ ((m : HouseState) × (xs : List Item) × SettlesMore old m xs now × (e ≡ settle_refusal m.core now))

-- at least one and at most `most` items of one front were settled; or fewer than `most`, and the reason
pub record SettlesSome (front most now : ℕ) (old : HouseState) (result : Result ℕ Refusal) (new : HouseState) : Type 0 where
  pub items : List Item
  pub settling : Settling front now old new items
  pub answer : MatchResult result (λ n. (n ≡ length items) × (0 < n) × (n ≤ most) × (clock_of old.core ≤ now)) (λ e. (length items < most) × StopsSettling now old e)

-- the answer to a request to settle `count` items: their number, or the reason why there were fewer
abbrev pub IsSequenceAnswer : ℕ → ℕ → HouseState → List Item → Answer → Type 0
IsSequenceAnswer count now old xs (a_settled_count n) = (n ≡ count) × (length xs ≡ count) × (0 < count → clock_of old.core ≤ now)
IsSequenceAnswer count now old xs (refused e) = (length xs < count) × StopsSettling now old e
IsSequenceAnswer count now old xs _ = ⊥

-- the operator settles `count` items of a front at now; if `count` is 0, it returns at once and nothing changes
pub record SequencesFront (front count now : ℕ) (old : HouseState) (r : Answer) (new : HouseState) : Type 0 where
  pub items : List Item
  pub settling : Settling front now old new items
  pub answer : IsSequenceAnswer count now old items r
  pub none : count ≡ 0 → new ≡ old

-- a head is published at now, and is the answer; or the publication is refused, the refusal is the answer, and nothing was published
abbrev pub Publishes : ℕ → HouseState → Answer → HouseState → Type 0
Publishes now old (a_published_head h) new = IsInTime old.core now × IsNextHead old.core now h × (new ≡ record old { core = after_publishing old.core h })
Publishes now old (refused e) new = (e ≡ publish_refusal old.core now) × (new ≡ old)
Publishes now old _ new = ⊥

-- the log is shut, and the answer is how many submissions were accepted; or it was shut already, and nothing changes
abbrev pub ShutsTheLog : HouseState → Answer → HouseState → Type 0
ShutsTheLog old (an_accepted_count n) new = (old.accepted ≡ None) × (new ≡ record old { accepted = Some n })
ShutsTheLog old (refused e) new = (e ≡ refusal.Shutdown) × (old.accepted ≢ None) × (new ≡ old)
ShutsTheLog old _ new = ⊥

-- the line is replied to with bad-line, and nothing is done
abbrev pub IsBadLine : HouseState → Answer → HouseState → Type 0
IsBadLine old r new = (r ≡ refused refusal.BadLine) × (new ≡ old)

-- the operator does a task, with this answer
abbrev pub OperatorDoes : HouseState → OperatorTask → Answer → HouseState → Type 0
OperatorDoes old (Sequence from count now) r new = MatchBool (nat_lt from (length old.lanes)) (SequencesFront from count now old r new) (IsBadLine old r new)
OperatorDoes old (Publish now) r new = Publishes now old r new
OperatorDoes old Shutdown r new = ShutsTheLog old r new
OperatorDoes old BadLine r new = IsBadLine old r new

-- the operator does its tasks in turn, and the lines of its answers follow the text written before
abbrev pub OperatorServes : HouseState → List OperatorTask → List ℕ → HouseState → List ℕ → Type 0
OperatorServes a ts before b text = Serves OperatorDoes a ts before b text
