-- All steps whose lines the lock took belong to one list of entries, or two of the strings that are hashed collide.
use Rattle.std.proofs.Common.{◌≡◌, ◌⊎◌, ◌∙◌, ℕ, suc, ◌+◌, ◌<◌, ◌≤◌, cond, List, [], ◌∷◌, ◌++◌, length, take, drop, sym, refl, ap, subst, arith, inl, inr, ⊎_elim, append_assoc, append-nil, length-append}
use Rattle.std.proofs.lemmas.List.{take_at, drop_at}
use Rattle.std.proofs.lemmas.List.Elements.{All-cons, All-nil}
use Rattle.std.proofs.lemmas.List.Kept.{AllPairs-cons}
use Rattle.std.specs.Prelude.{All, Bool, true, false, if◌then◌else◌, Contains}
use Rattle.ct_codec.specs.Submitted.{Submitted}
use Rattle.ct_data_tiles.specs.TileLeaf.{Tiled}
use Rattle.ct_step.specs.declared.line.StateLine.{StateLine}
use Rattle.ct_verify.proofs.Agreeing.{collide_more}
use Rattle.ct_verify.specs.Hashed.{CollideAmong}
use Rattle.ct_step.specs.Entries.{tiled_leaves}
use Rattle.ct_step.specs.Steps.{IsEdgeOf, IsHashedOfLog, IsLog, IsTiledStep, new_entries}
use Rattle.ct_step.specs.Lines.{LineAttempt, AreLineAttempts, HandedLineAttempt, AreTrueAttempts, handed_line_attempts, entries_after, IsHashedBySteps, taken_lines, IsStepOf, ComesBehindLine, CarryOnLines, LineSequencersAgree, TrueEdgesAgree}

pub length-tiled : (t first : ℕ) (B : List (Submitted × List (List ℕ))) → length (tiled_leaves t first B) ≡ length B
unfolding tiled_leaves
length-tiled t first [] = refl
length-tiled t first (e ∷ B) = ap suc (length-tiled t (suc first) B)

abbrev of_attempt : List Tiled → LineAttempt → List Tiled
of_attempt E a = new_entries E a.batch a.now

is_of : (H : List ℕ → List ℕ) (E Z : List Tiled) (a : LineAttempt) → a.seen.tree_size ≡ length E → IsTiledStep H a.seen E a.batch a.now a.step
    → IsStepOf H ((E ++ of_attempt E a) ++ Z) a
is_of H E Z a size p =
    let N = of_attempt E a in
    let all = (E ++ N) ++ Z in
    let count : length N ≡ length a.batch = length-tiled a.now (length E) a.batch in
    let before : take a.seen.tree_size all ≡ E =
    ap (λ n. take n all) size ∙ ap (take (length E)) (append_assoc E N Z) ∙ take_at E (N ++ Z) (length E) refl in
    let now : take a.step.line.tree_size all ≡ E ++ N =
    ap (λ n. take n all) p.log.size ∙ take_at (E ++ N) Z (length (E ++ N)) refl in
    let rest : drop a.seen.tree_size all ≡ N ++ Z =
    ap (λ n. drop n all) size ∙ ap (drop (length E)) (append_assoc E N Z) ∙ drop_at E (N ++ Z) (length E) refl in
    record {
      size = omega (arith, p.log.size, length-append (E ++ N) Z);
      log = subst (λ (X : List Tiled). IsLog H X a.step.line) (sym now) p.log;
      step = subst (λ (X : List Tiled). IsTiledStep H a.seen X a.batch a.now a.step) (sym before) p;
      entries = ap (λ (n : ℕ). tiled_leaves a.now n a.batch) size
          ∙ sym (ap (take (length a.batch)) rest ∙ ap (λ n. take n (N ++ Z)) (sym count) ∙ take_at N Z (length N) refl);
    }

-- steps that carry on, and begin at an index or after it
record CarriedLines (H : List ℕ → List ℕ) (since from : ℕ) (E : List Tiled) (steps : List LineAttempt) : Type 0 where
  pub carry : CarryOnLines H since E steps
  pub behind : All (λ a. from ≤ a.seen.tree_size) steps

carried_none : (H : List ℕ → List ℕ) (since from : ℕ) (E : List Tiled) → CarriedLines H since from E []
carried_none H since from E = record {
  carry = record {
    all = All-nil (IsStepOf H E);
    later = All-nil (λ a. since < a.step.line.timestamp);
    order = λ i j d less within. absurd (omega (arith, less, within));
  };
  behind = All-nil (λ a. from ≤ a.seen.tree_size);
}

-- one step before those that carry on from its line
carried_more : (H : List ℕ → List ℕ) (since : ℕ) (known Z : List Tiled) (a : LineAttempt) (steps : List LineAttempt) → since < a.now
    → a.seen.tree_size ≡ length known → IsTiledStep H a.seen known a.batch a.now a.step
    → CarriedLines H a.step.line.timestamp (length (known ++ of_attempt known a)) ((known ++ of_attempt known a) ++ Z) steps
    → CarriedLines H since (length known) ((known ++ of_attempt known a) ++ Z) (a ∷ steps)
carried_more H since known Z a steps later size p rest =
    let E = (known ++ of_attempt known a) ++ Z in
    let grown : length (known ++ of_attempt known a) ≡ length known + length (of_attempt known a) = length-append known (of_attempt known a) in
    record {
      carry = record {
        all = All-cons (IsStepOf H E) a steps (is_of H known Z a size p) rest.carry.all;
        later = All-cons (λ b. since < b.step.line.timestamp) a steps (omega (arith, later, p.moment))
            (λ k d h. omega (arith, later, p.moment, rest.carry.later k d h));
        order = AllPairs-cons ComesBehindLine a steps
            (λ k d h. record {
              moment = rest.carry.later k d h;
              entries = omega (arith, p.log.size, rest.behind k d h);
            })
            rest.carry.order;
      };
      behind = All-cons (λ b. length known ≤ b.seen.tree_size) a steps (omega (arith, size))
          (λ k d h. omega (arith, grown, rest.behind k d h));
    }

-- the entries after attempts begin with those that were known
pub after_begins : (known : List Tiled) (attempts : List LineAttempt) → (Z : List Tiled) × (entries_after known attempts ≡ known ++ Z)
unfolding entries_after
after_begins known [] = ([], sym (append-nil known))
after_begins known (a ∷ rest) =
    by_took a.took (after_begins (known ++ of_attempt known a) rest) (after_begins known rest)
  where
    N : List Tiled
    N = of_attempt known a

    by_took : (t : Bool) → ((Z : List Tiled) × (entries_after (known ++ N) rest ≡ (known ++ N) ++ Z))
        → ((Z : List Tiled) × (entries_after known rest ≡ known ++ Z))
        → (Z : List Tiled) × (entries_after (if t then known ++ N else known) rest ≡ known ++ Z)
    by_took true more same = (N ++ more.0, more.1 ∙ append_assoc known N more.0)
    by_took false more same = same

-- a list whose beginning is known
pub begins : (E known Z : List Tiled) → E ≡ known ++ Z → (known ≡ take (length known) E) × (length known ≤ length E)
begins E known Z e =
    (sym (take_at known Z (length known) refl) ∙ ap (take (length known)) (sym e), omega (arith, ap length e, length-append known Z))

-- the entries after a step that was taken, and after one that was not
pub after_taken : (known : List Tiled) (a : LineAttempt) (rest : List LineAttempt) → a.took ≡ true
    → entries_after known (a ∷ rest) ≡ entries_after (known ++ of_attempt known a) rest
unfolding entries_after
after_taken known a rest took = ap (λ (t : Bool). entries_after (if t then known ++ of_attempt known a else known) rest) took

pub after_left : (known : List Tiled) (a : LineAttempt) (rest : List LineAttempt) → a.took ≡ false
    → entries_after known (a ∷ rest) ≡ entries_after known rest
unfolding entries_after
after_left known a rest left = ap (λ (t : Bool). entries_after (if t then known ++ of_attempt known a else known) rest) left

module _ (H : List ℕ → List ℕ) (S : List (List ℕ)) (E : List Tiled) where
  -- a collision that is met at a beginning of the entries
  pub met_before : (known Z : List Tiled) → E ≡ known ++ Z → CollideAmong H (λ s. Contains S s ⊎ IsHashedOfLog H known s)
      → CollideAmong H (IsHashedBySteps H S E)
  met_before known Z e found =
      let start = begins E known Z e in
      collide_more H (λ s. Contains S s ⊎ IsHashedOfLog H known s) (IsHashedBySteps H S E)
      (λ s h. ⊎_elim
      (λ (c : Contains S s). inl c)
      (λ (own : IsHashedOfLog H known s). inr (length known, start.1, subst (λ (K : List Tiled). IsHashedOfLog H K s) start.0 own))
      h)
      found

  abbrev Agreed : StateLine → List Tiled → List LineAttempt → Type 0
  Agreed held known attempts = CarriedLines H held.timestamp (length known) E (taken_lines attempts) ⊎ CollideAmong H (IsHashedBySteps H S E)

  agree_from : (held : StateLine) (known : List Tiled) (attempts : List LineAttempt) → E ≡ entries_after known attempts → IsLog H known held
      → AreLineAttempts H S held attempts → Agreed held known attempts
  unfolding AreLineAttempts
  agree_from held known [] all s made = inl (carried_none H held.timestamp (length known) E)
  agree_from held known (a ∷ rest) all s (made, inl (took, seen, more)) =
      let N = of_attempt known a in
      let log : IsLog H known a.seen = subst (IsLog H known) (sym seen) s in
      let since : held.timestamp < a.now = omega (arith, made.0, ap (λ (x : StateLine). x.timestamp) seen) in
      let kept : taken_lines (a ∷ rest) ≡ a ∷ taken_lines rest = ap (λ b. cond b (a ∷ taken_lines rest) (taken_lines rest)) took in
      let after : E ≡ entries_after (known ++ N) rest = all ∙ after_taken known a rest took in
      let end = after_begins (known ++ N) rest in
      let whole : E ≡ (known ++ N) ++ end.0 = after ∙ end.1 in
      ⊎_elim
      (λ (p : IsTiledStep H a.seen known a.batch a.now a.step).
      ⊎_elim
      (λ (behind : CarriedLines H a.step.line.timestamp (length (known ++ N)) E (taken_lines rest)).
      inl (subst (λ (steps : List LineAttempt). CarriedLines H held.timestamp (length known) E steps) (sym kept)
      (subst (λ (X : List Tiled). CarriedLines H held.timestamp (length known) X (a ∷ taken_lines rest)) (sym whole)
      (carried_more H held.timestamp known end.0 a (taken_lines rest) since log.size p
      (subst (λ (X : List Tiled). CarriedLines H a.step.line.timestamp (length (known ++ N)) X (taken_lines rest)) whole behind)))))
      (λ (found : CollideAmong H (IsHashedBySteps H S E)). inr found)
      (agree_from a.step.line (known ++ N) rest after p.log more))
      (λ (found : CollideAmong H (λ s. Contains S s ⊎ IsHashedOfLog H known s)).
      inr (met_before known (N ++ end.0) (whole ∙ append_assoc known N end.0) found))
      (made.2 known log)
  agree_from held known (a ∷ rest) all s (made, inr (left, more)) =
      let kept : taken_lines (a ∷ rest) ≡ taken_lines rest = ap (λ b. cond b (a ∷ taken_lines rest) (taken_lines rest)) left in
      ⊎_elim
      (λ (behind : CarriedLines H held.timestamp (length known) E (taken_lines rest)).
      inl (subst (λ (steps : List LineAttempt). CarriedLines H held.timestamp (length known) E steps) (sym kept) behind))
      (λ (found : CollideAmong H (IsHashedBySteps H S E)). inr found)
      (agree_from held known rest (all ∙ after_left known a rest left) s more)

pub line_sequencers_agree : LineSequencersAgree
line_sequencers_agree H S held known attempts s made E all =
    let end = after_begins known attempts in
    ⊎_elim
    (λ (behind : CarriedLines H held.timestamp (length known) E (taken_lines attempts)).
    inl ((begins E known end.0 (all ∙ end.1)).0, behind.carry))
    (λ (found : CollideAmong H (IsHashedBySteps H S E)). inr found)
    (agree_from H S E held known attempts all s made)

-- ---- the case that each step that was taken received the edge of the log
agree_truly : (H : List ℕ → List ℕ) (held : StateLine) (known : List Tiled) (attempts : List HandedLineAttempt) → IsLog H known held
    → AreTrueAttempts H held known attempts
    → (Z : List Tiled) × CarriedLines H held.timestamp (length known) (known ++ Z) (taken_lines (handed_line_attempts attempts))
unfolding AreTrueAttempts
agree_truly H held known [] s made = ([], carried_none H held.timestamp (length known) (known ++ []))
agree_truly H held known (b ∷ rest) s (made, inl (took, seen, is, more)) =
    let a = b.attempt in
    let steps = taken_lines (handed_line_attempts rest) in
    let N = of_attempt known a in
    let log : IsLog H known a.seen = subst (IsLog H known) (sym seen) s in
    let size : a.seen.tree_size ≡ held.tree_size = ap (λ (x : StateLine). x.tree_size) seen in
    let since : held.timestamp < a.now = omega (arith, made.may.later, ap (λ (x : StateLine). x.timestamp) seen) in
    let p : IsTiledStep H a.seen known a.batch a.now a.step =
    made.step known (subst (λ (n : ℕ). IsEdgeOf H known n b.edge b.entries) (sym size) is) in
    let kept : taken_lines (a ∷ handed_line_attempts rest) ≡ a ∷ steps = ap (λ c. cond c (a ∷ steps) steps) took in
    let behind = agree_truly H a.step.line (known ++ N) rest p.log more in
    let e : (known ++ N) ++ behind.0 ≡ known ++ (N ++ behind.0) = append_assoc known N behind.0 in (
      N ++ behind.0,
      subst (λ (E : List Tiled). CarriedLines H held.timestamp (length known) E (taken_lines (a ∷ handed_line_attempts rest))) e
          (subst (λ (l : List LineAttempt). CarriedLines H held.timestamp (length known) ((known ++ N) ++ behind.0) l) (sym kept)
          (carried_more H held.timestamp known behind.0 a steps since log.size p behind.1)),
    )
agree_truly H held known (b ∷ rest) s (made, inr (left, more)) =
    let a = b.attempt in
    let steps = taken_lines (handed_line_attempts rest) in
    let kept : taken_lines (a ∷ handed_line_attempts rest) ≡ steps = ap (λ c. cond c (a ∷ steps) steps) left in
    let behind = agree_truly H held known rest s more in
    (behind.0, subst (λ (l : List LineAttempt). CarriedLines H held.timestamp (length known) (known ++ behind.0) l) (sym kept) behind.1)

pub true_edges_agree : TrueEdgesAgree
true_edges_agree H held known attempts s made =
    let all = agree_truly H held known attempts s made in
    (known ++ all.0, sym (take_at known all.0 (length known) refl), all.1.carry)
