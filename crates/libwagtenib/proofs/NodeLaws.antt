-- Histories by calls are histories of ct_node's nodes, so its laws hold of them.
use Rattle.std.proofs.Common.{◌≡◌, ◌∙◌, ◌⊎◌, ⊎_elim, inl, inr, refl, arith, sym, ap, subst, ℕ, List, [], ◌∷◌, ◌++◌, length, take, Option, Some, None}
use Rattle.std.specs.Prelude.{Bool, true, false, if◌then◌else◌, option_map, ⊤}
use Rattle.std.proofs.lemmas.Option.{same_Some, none-some}
use Rattle.ct_data_tiles.specs.TileLeaf.{Tiled}
use Rattle.ct_step.specs.declared.line.StateLine.{StateLine}
use Rattle.ct_verify.specs.Hashed.{CollideAmong}
use Rattle.ct_node.specs.declared.state.State.{State}
use Rattle.ct_node.specs.declared.node.Node.{Node}
use Rattle.ct_node.specs.declared.node.Node.TheVariants.{Reading, Looking, Stepping, Staging, Swapping, Deleting, Putting, Placing, Heading, Answering}
use Rattle.ct_node.specs.declared.node.Outcome.{Outcome}
use Rattle.ct_node.specs.declared.node.Outcome.TheVariants.{Done, Lost, Read, Published, Bundle, Stepped, Listed}
use Rattle.ct_node.specs.declared.starting.Point.{Point}
use Rattle.ct_node.specs.declared.starting.Beginning.{Beginning}
use Rattle.ct_node.specs.declared.starting.Beginning.TheVariants.{Goes, Creates, Gone, BehindSeen, BehindGuard, TwoRoots, GuardBehind, BehindListed, BehindPublished}
use Rattle.ct_node.specs.Nodes.{after, follows, is_behind}
use Rattle.ct_node.specs.Starts.{started, GoesBehindNone, NoneIsAhead}
use Rattle.ct_node.specs.Worlds.{Has, World, Happening, Comes, Makes, Puts, Goes as GoesAway, Told, comes, happens, beginning, MayHappen, LeadTo, IsFirstState, IsSoundWorld, WorldsAreSound}
use Rattle.ct_node.specs.LookUps.{AllLookUp}
use Rattle.ct_step.specs.Lines.{IsHashedBySteps}
use Rattle.ct_node.specs.Logs.{StandsOf, NodesWriteOneLog, log_of_past}
use Rattle.ct_node.specs.Once.{NodesAddOnce}
use Rattle.ct_node.specs.Whole.{HeadsHaveAllObjects}
use Rattle.ct_node.specs.declared.lock_reading.Said.{Said}
use Rattle.libwagtenib.specs.declared.node.NodeCommand.{NodeCommand}
use Rattle.libwagtenib.specs.declared.node.NodeFound.{NodeFound}
use Rattle.libwagtenib.specs.declared.node.NodeState.{NodeState}
use Rattle.libwagtenib.specs.Node.{node_of_c, c_of_node, state_of_c, outcome_of_c, GivesNext, found_of_c, start_code, lock_of, StartsNode}
use Rattle.libwagtenib.specs.NodeLaws.{CommandsAreRead, AreCommandsOf, CallsAreTold, GiveCommands, IsKeptText, IsReadText, KnowsObjects, TellsOf, NeedsOf, CommandsHaveTexts, CommandsHaveObjects, CallsWorld, calls_beginning, NextCall, CallHappening, Beside, Called, IsNoTelling, happens_by_calls, MayHappenByCalls, LeadToByCalls, GivesNode, CallsAreHistories, CallsWriteOneLog, CallsPutAll, CallsNameOneContent, AllLookUpByCalls, CallsAddOnce, CallsStartBehindNone}

-- ---- a command that is written is read again

read_back : (k m : Node) → node_of_c (c_of_node k) ≡ Some m → k ≡ m
read_back Reading m e = same_Some Reading m e
read_back (Looking s) m e = same_Some (Looking s) m e
read_back (Stepping s) m e = same_Some (Stepping s) m e
read_back (Staging s t n) m e = same_Some (Staging s t n) m e
read_back (Swapping s t n) m e = same_Some (Swapping s t n) m e
read_back (Deleting s t) m e = same_Some (Deleting s t) m e
read_back (Putting s n) m e = same_Some (Putting s n) m e
read_back (Placing s) m e = same_Some (Placing s) m e
read_back (Heading s) m e = same_Some (Heading s) m e
read_back (Answering s) m e = same_Some (Answering s) m e

-- the command that a call wrote if it returned 0
written : (c : NextCall) → c.next ≡ c_of_node (after c.node c.outcome)
written c =
    ⊎_elim
    (λ r.
    let one : r.1.0 ≡ c.node = same_Some r.1.0 c.node (sym r.1.2 ∙ c.is_node) in
    let two : r.1.1 ≡ c.outcome = same_Some r.1.1 c.outcome (sym r.1.3 ∙ c.is_outcome) in
    r.1.4 ∙ ap (λ (n : Node). c_of_node (after n r.1.1)) one ∙ ap (λ (x : Outcome). c_of_node (after c.node x)) two)
    (λ r. ⊎_elim (λ s. absurd (omega (arith, s.0))) (λ s. absurd (omega (arith, s.0))) r)
    c.returned

-- ---- a command that is written is read again, whatever the outcomes were

read_again : (k : Node) → node_of_c (c_of_node k) ≡ Some k
read_again Reading = refl
read_again (Looking s) = refl
read_again (Stepping s) = refl
read_again (Staging s t n) = refl
read_again (Swapping s t n) = refl
read_again (Deleting s t) = refl
read_again (Putting s n) = refl
read_again (Placing s) = refl
read_again (Heading s) = refl
read_again (Answering s) = refl

pub commands_are_read : CommandsAreRead
commands_are_read c = ap (λ (z : NodeCommand). node_of_c z) (written c) ∙ read_again (after c.node c.outcome)

-- a command is that of a node at the same index
node_at : (given : List NodeCommand) (sent : List Node) (d : NodeCommand) (n : Node) → AreCommandsOf given sent → Has d given → node_of_c d ≡ Some n → Has n sent
node_at [] sent d n a h e = absurd h
node_at (c ∷ cs) [] d n a h e = absurd a
node_at (c ∷ cs) (m ∷ ms) d n a (inl same) e = inl (same_Some n m (sym e ∙ ap (λ (z : NodeCommand). node_of_c z) same ∙ a.0))
node_at (c ∷ cs) (m ∷ ms) d n a (inr i) e = inr (node_at cs ms d n a.1 i e)

pub calls_are_told : CallsAreTold
calls_are_told w given c a h = (node_at given w.sent c.command c.node a h c.is_node, (commands_are_read c, a))

-- ---- the texts of commands

if_needs : (T : State → Type 0) (Q : State → ℕ → Type 0) (b : Bool) (m n : Node) → NeedsOf T Q m → NeedsOf T Q n → NeedsOf T Q (if b then m else n)
if_needs T Q true m n h i = h
if_needs T Q false m n h i = i

next_needs : (T : State → Type 0) (Q : State → ℕ → Type 0) (s : Node) (o : Outcome) → NeedsOf T Q s → TellsOf T Q s o → NeedsOf T Q (after s o)
next_needs T Q Reading Done h t = tt
next_needs T Q Reading Lost h t = tt
next_needs T Q Reading (Read x) h t = t
next_needs T Q Reading Published h t = tt
next_needs T Q Reading (Bundle m) h t = tt
next_needs T Q Reading (Stepped x m) h t = tt
next_needs T Q Reading (Listed x) h t = tt
next_needs T Q (Looking k) Done h t = h
next_needs T Q (Looking k) Lost h t = tt
next_needs T Q (Looking k) (Read x) h t = h
next_needs T Q (Looking k) Published h t = h
next_needs T Q (Looking k) (Bundle m) h t = (h, t)
next_needs T Q (Looking k) (Stepped x m) h t = h
next_needs T Q (Looking k) (Listed x) h t = h
next_needs T Q (Stepping k) Done h t = h
next_needs T Q (Stepping k) Lost h t = tt
next_needs T Q (Stepping k) (Read x) h t = h
next_needs T Q (Stepping k) Published h t = h
next_needs T Q (Stepping k) (Bundle m) h t = h
next_needs T Q (Stepping k) (Stepped x m) h t = if_needs T Q (follows k x) (Staging k x m) (Stepping k) (h, t.0, t.1) h
next_needs T Q (Stepping k) (Listed x) h t = if_needs T Q (is_behind k x) (Deleting k x) (Stepping k) h h
next_needs T Q (Staging k l n) Done h t = h
next_needs T Q (Staging k l n) Lost h t = tt
next_needs T Q (Staging k l n) (Read x) h t = h
next_needs T Q (Staging k l n) Published h t = h
next_needs T Q (Staging k l n) (Bundle m) h t = h
next_needs T Q (Staging k l n) (Stepped x m) h t = h
next_needs T Q (Staging k l n) (Listed x) h t = h
next_needs T Q (Swapping k l n) Done h t = (h.1, h.2)
next_needs T Q (Swapping k l n) Lost h t = tt
next_needs T Q (Swapping k l n) (Read x) h t = h
next_needs T Q (Swapping k l n) Published h t = h
next_needs T Q (Swapping k l n) (Bundle m) h t = h
next_needs T Q (Swapping k l n) (Stepped x m) h t = h
next_needs T Q (Swapping k l n) (Listed x) h t = h
next_needs T Q (Deleting k l) Done h t = h
next_needs T Q (Deleting k l) Lost h t = h
next_needs T Q (Deleting k l) (Read x) h t = h
next_needs T Q (Deleting k l) Published h t = h
next_needs T Q (Deleting k l) (Bundle m) h t = h
next_needs T Q (Deleting k l) (Stepped x m) h t = h
next_needs T Q (Deleting k l) (Listed x) h t = h
next_needs T Q (Putting l n) Done h t = h.0
next_needs T Q (Putting l n) Lost h t = tt
next_needs T Q (Putting l n) (Read x) h t = h
next_needs T Q (Putting l n) Published h t = h
next_needs T Q (Putting l n) (Bundle m) h t = h
next_needs T Q (Putting l n) (Stepped x m) h t = h
next_needs T Q (Putting l n) (Listed x) h t = h
next_needs T Q (Placing l) Done h t = h
next_needs T Q (Placing l) Lost h t = tt
next_needs T Q (Placing l) (Read x) h t = h
next_needs T Q (Placing l) Published h t = h
next_needs T Q (Placing l) (Bundle m) h t = h
next_needs T Q (Placing l) (Stepped x m) h t = h
next_needs T Q (Placing l) (Listed x) h t = h
next_needs T Q (Heading l) Done h t = h
next_needs T Q (Heading l) Lost h t = tt
next_needs T Q (Heading l) (Read x) h t = h
next_needs T Q (Heading l) Published h t = h
next_needs T Q (Heading l) (Bundle m) h t = h
next_needs T Q (Heading l) (Stepped x m) h t = h
next_needs T Q (Heading l) (Listed x) h t = h
next_needs T Q (Answering l) Done h t = tt
next_needs T Q (Answering l) Lost h t = tt
next_needs T Q (Answering l) (Read x) h t = h
next_needs T Q (Answering l) Published h t = h
next_needs T Q (Answering l) (Bundle m) h t = h
next_needs T Q (Answering l) (Stepped x m) h t = h
next_needs T Q (Answering l) (Listed x) h t = h

module _ (T : State → Type 0) (Q : State → ℕ → Type 0) where
  abbrev AllNeed : List NodeCommand → Type 0
  AllNeed given = (c : NodeCommand) (n : Node) → Has c given → node_of_c c ≡ Some n → NeedsOf T Q n

  all_need : (calls : List NextCall) (given all : List NodeCommand) → GiveCommands given calls all
      → ((c : NextCall) → Has c calls → TellsOf T Q c.node c.outcome) → AllNeed given → AllNeed all
  unfolding GiveCommands
  all_need [] given all g tells h = subst (λ (z : List NodeCommand). AllNeed z) g h
  all_need (c ∷ calls) given all g tells h =
      let next : NeedsOf T Q (after c.node c.outcome) = next_needs T Q c.node c.outcome (h c.command c.node g.0 c.is_node) (tells c (inl refl)) in
      all_need calls (c.next ∷ given) all g.1 (λ d i. tells d (inr i))
      (λ d n i e.
      ⊎_elim
      (λ (same : d ≡ c.next).
      subst (λ (z : Node). NeedsOf T Q z)
      (same_Some (after c.node c.outcome) n (sym (commands_are_read c) ∙ sym (ap (λ (z : NodeCommand). node_of_c z) same) ∙ e)) next)
      (λ (there : Has d given). h d n there e)
      i)

-- a text that a call read is that of the state that the call wrote
kept_text : (line : State → StateLine) (k : State) (text : List ℕ) → IsReadText line k text → IsKeptText line k text
kept_text line k text ((before, size_before, size, inl r), begins) =
    let state : r.1.0.state ≡ k = sym (ap (λ (s : NodeState). state_of_c s) r.1.2) in
    (ap (λ (o : Option Said). option_map (λ (said : Said). said.state) o) r.1.1 ∙ ap (λ (s : State). Some s) state, begins)
kept_text line k text ((before, size_before, size, inr r), begins) = absurd (omega (arith, r.0))

tells_more : (T U : State → Type 0) (Q : State → ℕ → Type 0) → ((k : State) → T k → U k) → (s : Node) (o : Outcome) → TellsOf T Q s o → TellsOf U Q s o
tells_more T U Q f s Done t = tt
tells_more T U Q f s Lost t = tt
tells_more T U Q f s (Read k) t = f k t
tells_more T U Q f s Published t = tt
tells_more T U Q f s (Bundle n) t = t
tells_more T U Q f s (Stepped l n) t = (f l t.0, t.1)
tells_more T U Q f s (Listed l) t = tt

from_reading : (T : State → Type 0) (Q : State → ℕ → Type 0) (calls : List NextCall) (all : List NodeCommand) → GiveCommands (c_of_node Reading ∷ []) calls all
    → ((c : NextCall) → Has c calls → TellsOf T Q c.node c.outcome) → (c : NodeCommand) (n : Node) → Has c all → node_of_c c ≡ Some n → NeedsOf T Q n
from_reading T Q calls all gives tells =
    all_need T Q calls (c_of_node Reading ∷ []) all gives tells
    (λ c n h e.
    ⊎_elim
    (λ (same : c ≡ c_of_node Reading).
    subst (λ (z : Node). NeedsOf T Q z) (read_back Reading n (sym (ap (λ (z : NodeCommand). node_of_c z) same) ∙ e)) tt)
    (λ (none : ⊥). absurd none)
    h)

pub commands_have_texts : CommandsHaveTexts
commands_have_texts line text calls all gives tells =
    let T : State → Type 0 = λ k. IsKeptText line k (text k) in
    let Q : State → ℕ → Type 0 = λ k n. ⊤ in
    from_reading T Q calls all gives
    (λ c i. tells_more (λ k. IsReadText line k (text k)) T Q (λ k. kept_text line k (text k)) c.node c.outcome (tells c i))

pub commands_have_objects : CommandsHaveObjects
commands_have_objects b line reply objects calls all gives tells =
    from_reading (λ k. ⊤) (λ k n. KnowsObjects b line reply objects k n) calls all gives tells

-- ---- a history by calls is one of the nodes

came_sent : (w : World) (s : Node) → (comes w s).sent ≡ w.sent
came_sent w Reading = refl
came_sent w (Looking k) = refl
came_sent w (Stepping k) = refl
came_sent w (Staging k l n) = refl
came_sent w (Swapping k l n) = refl
came_sent w (Deleting k l) = refl
came_sent w (Putting l n) = refl
came_sent w (Placing l) = refl
came_sent w (Heading l) = refl
came_sent w (Answering l) = refl

beside_sent : (w : World) (h : Happening) → IsNoTelling h → (happens w h).sent ≡ w.sent
beside_sent w (Comes s) b = came_sent w s
beside_sent w (Makes k l) b = refl
beside_sent w (Puts l n i) b = refl
beside_sent w (GoesAway k l left) b = refl
beside_sent w (Told s o) b = absurd b

-- the same happenings, as ct_node has them
as_node : CallHappening → Happening
as_node (Beside h) = h
as_node (Called c) = Told c.node c.outcome

of_nodes : List CallHappening → List Happening
of_nodes [] = []
of_nodes (h ∷ hs) = as_node h ∷ of_nodes hs

-- each command that calls gave is one that a node of the world gave
abbrev pub AreSent : List NodeCommand → List Node → Type 0
AreSent given sent = (c : NodeCommand) (n : Node) → Has c given → node_of_c c ≡ Some n → Has n sent

module _ (count : State → ℕ)
  where
    abbrev pub Stands : CallsWorld → Type 0
    Stands w = AreSent w.given w.world.sent

    first_stands : (b : State) → Stands (calls_beginning b)
    first_stands b c n h e =
        ⊎_elim (λ (s : c ≡ c_of_node Reading). inl (sym (read_back Reading n (sym (ap (λ (z : NodeCommand). node_of_c z) s) ∙ e)))) (λ (r : ⊥). absurd r) h

    one_happens : (w : CallsWorld) (h : CallHappening) → Stands w → MayHappenByCalls count w h
        → MayHappen count w.world (as_node h) × ((happens_by_calls w h).world ≡ happens w.world (as_node h)) × Stands (happens_by_calls w h)
    unfolding as_node
    one_happens w (Beside h) s m =
        (m.1, refl, subst (λ (z : List Node). AreSent w.given z) (sym (beside_sent w.world h m.0)) s)
    one_happens w (Called c) s m = (
      (s c.command c.node m.0 c.is_node, m.1),
      refl,
      λ d n h e.
          ⊎_elim
          (λ (same : d ≡ c.next).
          inl (sym (read_back (after c.node c.outcome) n (sym (ap (λ (z : NodeCommand). node_of_c z) (same ∙ written c)) ∙ e))))
          (λ (i : Has d w.given). inr (s d n i e))
          h,
    )

    all_happen : (hs : List CallHappening) (w v : CallsWorld) → Stands w → LeadToByCalls count w hs v
        → LeadTo count w.world (of_nodes hs) v.world × Stands v
    unfolding LeadToByCalls LeadTo of_nodes
    all_happen [] w v s l = (ap (λ (z : CallsWorld). z.world) l, subst (λ (z : CallsWorld). Stands z) l s)
    all_happen (h ∷ hs) w v s l =
        let one = one_happens w h s l.0 in
        let rest = all_happen hs (happens_by_calls w h) v one.2 l.1 in
        ((one.0, subst (λ (z : World). LeadTo count z (of_nodes hs) v.world) one.1 rest.0), rest.1)

    -- so of a history from the beginning
    of_history : (b : State) (hs : List CallHappening) (w : CallsWorld) → LeadToByCalls count (calls_beginning b) hs w
        → LeadTo count (beginning b) (of_nodes hs) w.world × Stands w
    of_history b hs w l = all_happen hs (calls_beginning b) w (first_stands b) l

-- a command that calls gave is sent
is_sent : (w : CallsWorld) (n : Node) → AreSent w.given w.world.sent → GivesNode w n → Has n w.world.sent
is_sent w n s g = s g.0 n g.1 g.2

pub calls_are_histories : CallsAreHistories
calls_are_histories count b hs w leads n gives = is_sent w n (of_history count b hs w leads).1 gives

-- ---- the laws

-- one thing more happens
lead_more : (count : State → ℕ) (hs : List Happening) (w v : World) (h : Happening) → LeadTo count w hs v → MayHappen count v h → LeadTo count w (hs ++ h ∷ []) (happens v h)
unfolding LeadTo
lead_more count [] w v h l m = (subst (λ (z : World). MayHappen count z h) (sym l) m, ap (λ (z : World). happens z h) l)
lead_more count (x ∷ hs) w v h l m = (l.0, lead_more count hs (happens w x) v h l.1 m)

-- If a node has the command to answer a state's submissions, the head of that state is in the store: otherwise an answer would lead to a world that is not sound.
answered_head : WorldsAreSound → (count : State → ℕ) (b : State) (hs : List Happening) (w : World) → IsFirstState count b → LeadTo count (beginning b) hs w
    → (l : State) → Has (Answering l) w.sent → Has l w.heads
answered_head sound count b hs w first leads l h =
    let more = lead_more count hs (beginning b) w (Comes (Answering l)) leads (h, tt) in
    (sound count b (hs ++ Comes (Answering l) ∷ []) (comes w (Answering l)) first more).answered l (inl refl)

pub calls_write_one_log : WorldsAreSound → NodesWriteOneLog → CallsWriteOneLog
calls_write_one_log sound one_log H S line step plan known count b hs w first leads is steps E all =
    let machine = of_history count b hs w leads in
    let s : IsSoundWorld count w.world = sound count b (of_nodes hs) w.world first machine.0 in
    ⊎_elim
    (λ (r : (known ≡ take (length known) E) × StandsOf H line step b plan E w.world).
    inl (
      r.0,
      r.1,
      λ l g.
          let head = answered_head sound count b (of_nodes hs) w.world first machine.0 l (is_sent w (Answering l) machine.1 g) in
          (head, r.1.past l (s.heads l head)),
    ))
    (λ (pair : CollideAmong H (IsHashedBySteps H S E)). inr pair)
    (one_log H S line step plan known count b (of_nodes hs) w.world first machine.0 is steps E all)

pub calls_put_all : HeadsHaveAllObjects → CallsPutAll
calls_put_all have_all H S line step plan known count b hs w first leads is steps whole l head =
    have_all H S line step plan known count b (of_nodes hs) w.world first (of_history count b hs w leads).0 is steps whole l head

all_looked : (ids : State → List (List ℕ)) (hs : List CallHappening) (w : CallsWorld) → AllLookUpByCalls ids w hs → AllLookUp ids w.world (of_nodes hs)
unfolding as_node of_nodes AllLookUp AllLookUpByCalls
all_looked ids [] w u = tt
all_looked ids (Beside h ∷ hs) w u = (u.0, all_looked ids hs (happens_by_calls w (Beside h)) u.1)
all_looked ids (Called c ∷ hs) w u = (tt, all_looked ids hs (happens_by_calls w (Called c)) u.1)

pub calls_add_once : NodesAddOnce → CallsAddOnce
calls_add_once add_once H S line step ids known count b hs w first leads log same steps looks E all =
    let machine = of_history count b hs w leads in
    add_once H S line step ids known count b (of_nodes hs) w.world first machine.0 log same steps (all_looked ids hs (calls_beginning b) looks) E all

pub calls_name_one_content : NodesWriteOneLog → CallsNameOneContent
calls_name_one_content one_log H S line step plan known count b hs w first leads is steps l m n c i j says other i_less j_less same =
    let machine = of_history count b hs w leads in
    let one : Has (Putting l n) w.world.sent = is_sent w (Putting l n) machine.1 says in
    let two : Has (Putting m c) w.world.sent = is_sent w (Putting m c) machine.1 other in
    let v : World = happens w.world (Puts l n i) in
    let u : World = happens v (Puts m c j) in
    let more = lead_more count (of_nodes hs) (beginning b) w.world (Puts l n i) machine.0 (one, i_less) in
    let again = lead_more count (of_nodes hs ++ Puts l n i ∷ []) (beginning b) v (Puts m c j) more (two, j_less) in
    let E : List Tiled = log_of_past step known w.world.past in
    ⊎_elim
    (λ (r : (known ≡ take (length known) E) × StandsOf H line step b plan E u).
    inl (r.1.names (record { state = l; index = i }) (record { state = m; index = j }) (inr (inl refl)) (inl refl) same))
    (λ (pair : CollideAmong H (IsHashedBySteps H S E)). inr pair)
    (one_log H S line step plan known count b ((of_nodes hs ++ Puts l n i ∷ []) ++ Puts m c j ∷ []) u first again is steps E refl)

-- ---- a start

zero_goes : (b : Beginning) → start_code b ≡ 0 → b ≡ Goes
zero_goes Goes e = refl
zero_goes Creates e = absurd (omega (arith, e))
zero_goes Gone e = absurd (omega (arith, e))
zero_goes BehindSeen e = absurd (omega (arith, e))
zero_goes BehindGuard e = absurd (omega (arith, e))
zero_goes TwoRoots e = absurd (omega (arith, e))
zero_goes GuardBehind e = absurd (omega (arith, e))
zero_goes BehindListed e = absurd (omega (arith, e))
zero_goes BehindPublished e = absurd (omega (arith, e))

pub calls_start_behind_none : GoesBehindNone → CallsStartBehindNone
calls_start_behind_none goes code lock p f is starts =
    ⊎_elim
    (λ (r : (code ≡ 114) × (lock_of f.flags lock ≡ None)). absurd (none-some (Some p) (sym r.1 ∙ is)))
    (λ r.
    let head : r.0 ≡ Some p = same_Some r.0 (Some p) (sym r.1 ∙ is) in
    let is_code : code ≡ start_code (started (found_of_c lock (Some p) f)) =
    r.2 ∙ ap (λ (h : Option Point). start_code (started (found_of_c lock h f))) head in
    let exact = goes (found_of_c lock (Some p) f) p refl in (
      λ e. exact.0 (zero_goes (started (found_of_c lock (Some p) f)) (sym is_code ∙ e)),
      λ n. is_code ∙ ap start_code (exact.1 n),
    ))
    starts
