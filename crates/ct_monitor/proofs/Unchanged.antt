-- If the parts of a state fit, and those of the state after an answer do not, then the state keeps nothing that a log can have handed out.
use Rattle.std.proofs.Common.{◌≡◌, ◌∙◌, ⊎_elim, ℕ, List, map, Option, Some, None, ap, subst, sym, arith, length-append}
use Rattle.std.specs.Prelude.{IfOk, MatchOption, Result, Ok, Err}
use Rattle.std.proofs.lemmas.List.{nil_from_length}
use Rattle.ct_tree.specs.Peaks.{root_of_peaks}
use Rattle.ct_tree.specs.Stack.{Stands}
use Rattle.ct_tree.specs.Tree.{hash_leaf}
use Rattle.ct_tree.specs.declared.head.Head.{Head}
use Rattle.ct_tree.proofs.Peaks.{root_of_peaks-peaks}
use Rattle.ct_monitor.specs.Followed.{IsFollowing}
use Rattle.ct_monitor.specs.Watched.{Watched, leaves_read}
use Rattle.ct_monitor.specs.WatcherState.{WatcherState, Keeps}
use Rattle.ct_monitor.specs.declared.verdict.Verdict.{Verdict}
use Rattle.ct_monitor.specs.Calls.{Handed, HasState, IsComparedOver, IsMonitorAnswer, LeavesState, StateJudges}
use Rattle.ct_monitor.specs.Fitting.{AcceptedFits, FitsTogether, NewestFits, WaitingFits}
use Rattle.ct_monitor.specs.declared.newest.Newest.{Newest}
use Rattle.ct_monitor.specs.CallLaws.{IsHandedOut, IsWaiting}
use Rattle.ct_monitor.specs.StateText.{IsMonitorState, IsNoState}
use Rattle.ct_monitor.specs.declared.answer.Answer.{Answer}
use Rattle.ct_monitor.proofs.Fits.{size_of, states_fit}
use Rattle.ct_monitor.proofs.CallHistory.{answer_follows}

following : (H : List ℕ → List ℕ) (accepted : Option Head) (sure : ℕ × List (List ℕ)) (D : List (List ℕ)) → AcceptedFits H accepted sure
    → Stands H sure (map (hash_leaf H) D) → IsFollowing H D accepted
following H None sure D f s = nil_from_length D (sym (size_of H sure D s) ∙ f)
following H (Some head) sure D f s = (
  f.0 ∙ size_of H sure D s,
  f.1 ∙ ap (root_of_peaks H) s.subtrees ∙ root_of_peaks-peaks H (map (hash_leaf H) D),
)

waiting : (H : List ℕ → List ℕ) (s : WatcherState) (w : Watched) (o : Option Head) → WaitingFits w.accepted w.newest.accepted o s.sure s.all → Keeps H s w → IsWaiting w o
waiting H s w None f k =
    nil_from_length w.ahead
    (omega (arith, f.0, size_of H s.sure w.sure k.sure, size_of H s.all (leaves_read w) k.all, length-append w.sure w.ahead))
waiting H s w (Some head) f k = (f.0, omega (arith, f.1, size_of H s.all (leaves_read w) k.all))

-- a log can have handed out what a state keeps whose parts fit
handed_out : (H : List ℕ → List ℕ) (s : WatcherState) (w : Watched) → FitsTogether H s → Keeps H s w → IsHandedOut H w
handed_out H s w f k = (
  following H w.accepted s.sure w.sure (subst (λ (a : Option Head). AcceptedFits H a s.sure) k.accepted f.accepted) k.sure,
  waiting H s w w.waiting
      (subst (λ (n : Newest). WaitingFits w.accepted n.accepted w.waiting s.sure s.all) k.newest
      (subst (λ (o : Option Head). WaitingFits w.accepted s.newest.accepted o s.sure s.all) k.waiting
      (subst (λ (a : Option Head). WaitingFits a s.newest.accepted s.waiting s.sure s.all) k.accepted f.waiting)))
      k,
  subst (λ (n : Newest). NewestFits w.accepted n.accepted) k.newest (subst (λ (a : Option Head). NewestFits a s.newest.accepted) k.accepted f.newest.0),
  subst (λ (n : Newest). NewestFits w.waiting n.waiting) k.newest (subst (λ (o : Option Head). NewestFits o s.newest.waiting) k.waiting f.newest.1),
)

keeps_none : (H : List ℕ → List ℕ) (s t : WatcherState) (handed : Handed) (v : Verdict) → FitsTogether H s → StateJudges H s handed v t → (FitsTogether H t → ⊥)
    → (w : Watched) → Keeps H s w → ⊥
keeps_none H s t handed v fits says unfit w k =
    let step = says.0 w k in
    unfit (states_fit H t step.0 (answer_follows H w handed v step.0 (handed_out H s w fits k) step.2).watched step.1)

module _ (H : List ℕ → List ℕ) (bytes : List ℕ) (s t : WatcherState) (handed : Handed) (v : Verdict) (is : IsMonitorState H s bytes)
    (says : StateJudges H s handed v t) (other : (u : WatcherState) → IsComparedOver H s handed v t → IsComparedOver H s handed v u)
  where
    -- the state after an answer, whether or not its parts fit
    pub state_after : (a : Answer) → LeavesState H bytes t a → (u : WatcherState) × StateJudges H s handed v u × HasState H u a
    state_after a leaves =
        ⊎_elim
        (λ (h : HasState H t a). (t, says, h))
        (λ (h : (FitsTogether H t → ⊥) × ((u : WatcherState) × IsMonitorState H u bytes × HasState H u a)).
        (h.1.0, (λ w k. absurd (keeps_none H s t handed v is.fits says h.0 w k), other h.1.0 says.1), h.1.2))
        leaves

    answered_after : (a : Answer) → a.verdict ≡ v → LeavesState H bytes t a → IsMonitorAnswer H bytes handed a
    answered_after a e leaves =
        let u = state_after a leaves in
        (s, u.0, is, subst (λ (x : Verdict). StateJudges H s handed x u.0) (sym e) u.1, u.2)

    pub all_answered : {F : Type 0} (r : Result (Option Answer) F)
        → IfOk r (λ o. MatchOption o (IsNoState H bytes) (λ a. (a.verdict ≡ v) × LeavesState H bytes t a))
        → IfOk r (λ o. MatchOption o (IsNoState H bytes) (λ a. IsMonitorAnswer H bytes handed a))
    all_answered (Ok None) h = h
    all_answered (Ok (Some a)) h = answered_after a h.0 h.1
    all_answered (Err e) h = tt
