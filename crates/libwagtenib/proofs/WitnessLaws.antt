-- The laws of many calls of a witness.
use Rattle.std.proofs.Common.{◌≡◌, ◌∙◌, ◌⊎◌, ◌<◌, ◌≤◌, ◌^◌, ℕ, List, [], ◌∷◌, ◌++◌, length, map, take, drop, Option, Some, None, All, Contains, true, sym, subst, ap, refl, inl, inr, ⊎_elim, arith}
use Rattle.std.proofs.lemmas.List.Elements.{All-nil, All-cons, All-head, All-tail, All-append, All-weaker, All-contains_itself}
use Rattle.std.proofs.lemmas.Option.{same_Some, none-some}
use Rattle.std.specs.List.{AllZip}
use Rattle.std.proofs.Math.Seq.{take-append_seam}
use Rattle.ct_checkpoint.specs.Message.{cosignature_message}
use Rattle.ct_verify.proofs.Viewing.{first_of, second_of}
use Rattle.ct_verify.specs.Hashed.{CollideAmong, proof_strings, proof_strings_down}
use Rattle.ct_verify.specs.Laws.{AreHashes}
use Rattle.ct_verify.specs.Verdict.{AcceptsConsistency}
use Rattle.ct_verify.specs.declared.fault.ProofFault.{ProofFault}
use Rattle.ct_verify.specs.declared.fault.ProofFault.TheVariants.{IndexOutOfRange, PathTooLong, PathTooShort, RootMismatch, EmptyPath, FirstMismatch}
use Rattle.ct_verify.specs.declared.fault.ProofFault.TheVariants.{SizesOutOfRange}
use Rattle.ct_witness.proofs.Runs.{all_back}
use Rattle.ct_witness.specs.declared.refusal.WitnessRefusal.{WitnessRefusal}
use Rattle.ct_witness.specs.declared.refusal.WitnessRefusal.TheVariants.{OldAbove, NotLast, Fork as ForkedTree, ProofNotEmpty, Inconsistent as Unproved}
use Rattle.ct_witness.specs.declared.tree.Tree.{Tree}
use Rattle.ct_witness.specs.Runs.{Granted, AreGranted, IsWitness, IsTreeOf, IsTreeOfFirst, IsHashedOver, granted_strings, newest_tree, no_tree}
use Rattle.ct_witness.specs.Witnessed.{PassesTree, TreeGoesOn}
use Rattle.libwagtenib.proofs.Messages.{same_cosigned}
use Rattle.libwagtenib.specs.Codes.{proof_code, tree_code}
use Rattle.libwagtenib.specs.Output.{WritesOutput}
use Rattle.libwagtenib.specs.Witness.{Cosigned, cosigned, none_yet, IsCheckpointOf, IsMessageOf, MayCosign, MayNotCosign, CosignsAfter, CosignsFirst, Cosigns}
use Rattle.libwagtenib.specs.WitnessLaws.{Over, none, state, Returned, CosignCall, Cosignature, message, held_by, AreKept, IsGrantOf, granted_by, newest_cosigned}
use Rattle.libwagtenib.specs.WitnessLaws.{CallsAreCosignatures, KeptAreAWitness, KeptGoBack, CosignedInOrder, KeptAreInOrder, NoTimeIs0}

-- ---- 0 is the number of no refusal
above_0-proof : (f : ProofFault) → 0 < proof_code f
above_0-proof IndexOutOfRange = omega arith
above_0-proof PathTooLong = omega arith
above_0-proof PathTooShort = omega arith
above_0-proof RootMismatch = omega arith
above_0-proof EmptyPath = omega arith
above_0-proof FirstMismatch = omega arith
above_0-proof SizesOutOfRange = omega arith

above_0-tree : (r : WitnessRefusal) → 0 < tree_code r
above_0-tree OldAbove = omega arith
above_0-tree NotLast = omega arith
above_0-tree ForkedTree = omega arith
above_0-tree ProofNotEmpty = omega arith
above_0-tree (Unproved f) = above_0-proof f

-- ---- calls that returned 0

-- the facts about a call that returned 0 after the cosignature `last`
record Cosigning (H : List ℕ → List ℕ) (last : Cosigned) (old : ℕ) (proof : List (List ℕ)) (time : ℕ) (bytes : List ℕ) : Type 0 where
  now : Cosigned
  is : IsMessageOf now bytes
  may : MayCosign H last now.origin now.tree old proof time
  timed : now.time ≡ time

taken : (bytes before after : List ℕ) (count : ℕ) → WritesOutput bytes 0 before after count → take count after ≡ bytes
taken bytes before after count (n, inl w) = ap (λ k. take k after) n ∙ ap (take (length bytes)) w.1 ∙ take-append_seam bytes (drop (length bytes) before)
taken bytes before after count (n, inr w) = absurd (omega (arith, w.0))

after : (H : List ℕ → List ℕ) (last : Cosigned) (text : List ℕ) (old : ℕ) (proof : List (List ℕ)) (time : ℕ) (before next : List ℕ) (m n : ℕ)
    → time < 2 ^ 64 → CosignsAfter H 0 last text old proof time before next m n → Cosigning H last old proof time (take n next)
after H last text old proof time before next m n fits (inl z) = absurd (omega (arith, z.0))
after H last text old proof time before next m n fits (inr (inl (origin, tree, is, inl (may, wrote)))) =
    record {
      now = cosigned origin tree time;
      is = (text, is, fits, taken (cosignature_message time text) before next n wrote);
      may = may;
      timed = refl;
    }
after H last text old proof time before next m n fits (inr (inl (origin, tree, is, inr (inl other, kept, len)))) = absurd (omega (arith, other.0))
after H last text old proof time before next m n fits (inr (inl (origin, tree, is, inr (inr (of, inl (r, code, stops)), kept, len)))) = absurd (omega (arith, code, above_0-tree r))
after H last text old proof time before next m n fits (inr (inl (origin, tree, is, inr (inr (of, inr late), kept, len)))) = absurd (omega (arith, late.0))
after H last text old proof time before next m n fits (inr (inr z)) = absurd (omega (arith, z.0))

-- after which cosignature a call over this was made
WasAfter : (List ℕ → List ℕ) → Over → Cosigned → Type 0
WasAfter H (none origin) last = last ≡ none_yet H origin
WasAfter H (state bytes) last = IsMessageOf last bytes

over_it : (H : List ℕ → List ℕ) (over : Over) (text : List ℕ) (old : ℕ) (proof : List (List ℕ)) (time : ℕ) (before next : List ℕ) (m n : ℕ)
    → time < 2 ^ 64 → Returned H over text old proof time before next m n → (last : Cosigned) × WasAfter H over last × Cosigning H last old proof time (take n next)
unfolding WasAfter
over_it H (none origin) text old proof time before next m n fits z = (none_yet H origin, refl, after H (none_yet H origin) text old proof time before next m n fits z)
over_it H (state bytes) text old proof time before next m n fits (inl z) = absurd (omega (arith, z.0))
over_it H (state bytes) text old proof time before next m n fits (inr (inl (last, is, z))) = (last, is, after H last text old proof time before next m n fits z)
over_it H (state bytes) text old proof time before next m n fits (inr (inr z)) = absurd (omega (arith, z.0))

found : {H : List ℕ → List ℕ} (c : CosignCall H) → (last : Cosigned) × WasAfter H c.over last × Cosigning H last c.old c.proof c.time (message c)
found {H} c = over_it H c.over c.text c.old c.proof c.time c.before c.after c.count_before c.count c.time_fits c.returned

pub calls_are_cosignatures : CallsAreCosignatures
calls_are_cosignatures H c =
    let f = (found c).2 in
    (f.now, f.is, λ other is. same_cosigned other f.now (message c) is f.is)

-- the same of a cosignature, which says what its call wrote
made : {H : List ℕ → List ℕ} (c : Cosignature H) → (last : Cosigned) × WasAfter H c.call.over last
    × MayCosign H last c.says.origin c.says.tree c.call.old c.call.proof c.call.time × (c.says.time ≡ c.call.time)
made {H} c =
    let f = found c.call in
    let same : f.2.now ≡ c.says = same_cosigned f.2.now c.says (message c.call) f.2.is c.is in (
      f.0,
      f.1,
      subst (λ (k : Cosigned). MayCosign H f.0 k.origin k.tree c.call.old c.call.proof c.call.time) same f.2.may,
      subst (λ (k : Cosigned). k.time ≡ c.call.time) same f.2.timed,
    )

pub no_time_is_0 : NoTimeIs0
no_time_is_0 H c = let m = made c in omega (arith, m.3, m.2.3)

-- ---- one cosignature over a register

-- the tree whose message a register holds, or the one of no leaves where it holds none
HoldsTree : (List ℕ → List ℕ) → Tree → Option (List ℕ) → Type 0
HoldsTree H t None = t ≡ no_tree H
HoldsTree H t (Some bytes) = (k : Cosigned) × IsMessageOf k bytes × (k.tree ≡ t)

-- the step of a witness that a cosignature is
Steps : (List ℕ → List ℕ) → Tree → Tree → ℕ → List (List ℕ) → Type 0
Steps H last tree old given =
    (s : Granted) × PassesTree H last s.old s.tree s.proof × AreHashes s.proof × (s.tree ≡ tree)
    × (((s.old ≡ old) × (s.proof ≡ given)) ⊎ ((s.old ≡ s.tree.size) × (s.proof ≡ [])))

again : (H : List ℕ → List ℕ) (last tree : Tree) (old : ℕ) (given : List (List ℕ)) → tree ≡ last → Steps H last tree old given
unfolding Steps
again H last tree old given e =
    let s : Granted = record { old = last.size; tree = last; proof = [] } in
    (s, (refl, inl (refl, refl, refl)), All-nil (λ (x : List ℕ). length x ≡ 32), sym e, inr (refl, refl))

anew : (H : List ℕ → List ℕ) (t : Tree) (last : Cosigned) (origin : List ℕ) (tree : Tree) (old : ℕ) (proof : List (List ℕ)) (time : ℕ)
    → last.tree ≡ t → MayCosign H last origin tree old proof time → Steps H t tree old proof
unfolding Steps
anew H t last origin tree old proof time e may =
    let s : Granted = record { old = old; tree = tree; proof = proof } in
    (s, subst (λ (l : Tree). PassesTree H l old tree proof) e may.1, may.2, refl, inl (refl, refl))

over_held : (H : List ℕ → List ℕ) (t : Tree) (held : Option (List ℕ)) (over : Over) (last : Cosigned) → HoldsTree H t held → held ≡ held_by over
    → WasAfter H over last → last.tree ≡ t
unfolding HoldsTree WasAfter
over_held H t None (none origin) last h e w = ap (λ (k : Cosigned). k.tree) w ∙ sym h
over_held H t None (state bytes) last h e w = absurd (none-some bytes e)
over_held H t (Some bytes) (none origin) last h e w = absurd (none-some bytes (sym e))
over_held H t (Some bytes) (state given) last (k, is, tree) e w =
    let same : bytes ≡ given = same_Some bytes given e in
    ap (λ (x : Cosigned). x.tree) (same_cosigned last k bytes (subst (IsMessageOf last) (sym same) w) is) ∙ tree

held_already : (H : List ℕ → List ℕ) (t : Tree) (held : Option (List ℕ)) (bytes : List ℕ) (k : Cosigned) → HoldsTree H t held → held ≡ Some bytes
    → IsMessageOf k bytes → k.tree ≡ t
unfolding HoldsTree
held_already H t None bytes k h e is = absurd (none-some bytes e)
held_already H t (Some other) bytes k (l, at, tree) e is =
    let same : other ≡ bytes = same_Some other bytes e in
    ap (λ (x : Cosigned). x.tree) (same_cosigned k l other (subst (IsMessageOf k) (sym same) is) at) ∙ tree

one_step : (H : List ℕ → List ℕ) (t : Tree) (held : Option (List ℕ)) (c : Cosignature H) → HoldsTree H t held
    → (held ≡ held_by c.call.over) ⊎ (held ≡ Some (message c.call)) → Steps H t c.says.tree c.call.old c.call.proof
one_step H t held c h (inl e) =
    let m = made c in
    anew H t m.0 c.says.origin c.says.tree c.call.old c.call.proof c.call.time (over_held H t held c.call.over m.0 h e m.1) m.2
one_step H t held c h (inr e) = again H t c.says.tree c.call.old c.call.proof (held_already H t held (message c.call) c.says h e c.is)

holds_it : (H : List ℕ → List ℕ) (c : Cosignature H) → HoldsTree H c.says.tree (Some (message c.call))
unfolding HoldsTree
holds_it H c = (c.says, c.is, refl)

-- ---- all of them
-- the tree that was cosigned
abbrev cosigned_tree : {H : List ℕ → List ℕ} → Cosignature H → Tree
cosigned_tree c = c.says.tree

-- the tree that was granted
abbrev granted_tree : Granted → Tree
granted_tree s = s.tree

-- the steps are those of the cosignatures, one by one
abbrev AreOf : (H : List ℕ → List ℕ) → List Granted → List (Cosignature H) → Type 0
AreOf H steps all = AllZip (λ (s : Granted) (c : Cosignature H). IsGrantOf s c) steps all

Run : (H : List ℕ → List ℕ) → Tree → List (Cosignature H) → Type 0
Run H t all = (steps : List Granted) × AreGranted H t steps × (map granted_tree steps ≡ map cosigned_tree all) × AreOf H steps all

run : (H : List ℕ → List ℕ) (t : Tree) (held : Option (List ℕ)) (all : List (Cosignature H)) → HoldsTree H t held → AreKept H held all → Run H t all
unfolding AreKept AreGranted Run Steps
run H t held [] h a = ([], tt, refl, tt)
run H t held (c ∷ rest) h a =
    let one = one_step H t held c h a.0 in
    let more = run H c.says.tree (Some (message c.call)) rest (holds_it H c) a.1 in
    let on : AreGranted H (one.0).tree more.0 = subst (λ (x : Tree). AreGranted H x more.0) (sym one.3) more.1 in (
      one.0 ∷ more.0,
      (one.1, one.2, on),
      ap (λ (x : Tree). x ∷ map granted_tree more.0) one.3 ∙ ap (λ (xs : List Tree). c.says.tree ∷ xs) more.2,
      ((one.3, one.4), more.3),
    )

starts : (H : List ℕ → List ℕ) → HoldsTree H (no_tree H) None
unfolding HoldsTree
starts H = refl

pub kept_are_a_witness : KeptAreAWitness
unfolding Run
kept_are_a_witness H all a = let r = run H (no_tree H) None all (starts H) a in (r.0, r.1, r.3)

-- ---- the laws of a witness, said of the calls
none_some : (x : Tree) (xs : List Tree) → [] ≡ x ∷ xs → ⊥
none_some x xs e = cc

newest_is : (H : List ℕ → List ℕ) (t : Tree) (steps : List Granted) (all : List (Cosignature H)) → map granted_tree steps ≡ map cosigned_tree all
    → newest_tree t steps ≡ newest_cosigned t all
unfolding newest_tree newest_cosigned
newest_is H t [] [] e = refl
newest_is H t [] (c ∷ rest) e = cc
newest_is H t (s ∷ steps) [] e = cc
newest_is H t (s ∷ steps) (c ∷ rest) e =
    let first : s.tree ≡ c.says.tree = cc in
    let more : map granted_tree steps ≡ map cosigned_tree rest = cc in
    ap (λ (x : Tree). newest_tree x steps) first ∙ newest_is H c.says.tree steps rest more

all_of : (H : List ℕ → List ℕ) (D : List (List ℕ)) (steps : List Granted) (all : List (Cosignature H)) → map granted_tree steps ≡ map cosigned_tree all
    → All (λ (s : Granted). IsTreeOfFirst H D s.tree) steps → All (λ (c : Cosignature H). IsTreeOfFirst H D c.says.tree) all
all_of H D [] [] e a = All-nil (λ (c : Cosignature H). IsTreeOfFirst H D c.says.tree)
all_of H D [] (c ∷ rest) e a = absurd (none_some (cosigned_tree c) (map cosigned_tree rest) e)
all_of H D (s ∷ steps) [] e a = absurd (none_some (granted_tree s) (map granted_tree steps) (sym e))
all_of H D (s ∷ steps) (c ∷ rest) e a =
    let first : s.tree ≡ c.says.tree = cc in
    let more : map granted_tree steps ≡ map cosigned_tree rest = cc in
    All-cons (λ (c : Cosignature H). IsTreeOfFirst H D c.says.tree) c rest
    (subst (IsTreeOfFirst H D) first (All-head (λ (z : Granted). IsTreeOfFirst H D z.tree) s steps a))
    (all_of H D steps rest more (All-tail (λ (z : Granted). IsTreeOfFirst H D z.tree) s steps a))

-- an empty proof hashes nothing
no_proof_strings : (H : List ℕ → List ℕ) (S : List ℕ → Type 0) (m n : ℕ) (r : List ℕ) → All S (proof_strings H m n true r [])
unfolding proof_strings proof_strings_down
no_proof_strings H S m n r = All-nil S

-- the strings of the steps are among those of the calls
of_proof : (H : List ℕ → List ℕ) (S : List ℕ → Type 0) (last : Tree) (s : Granted) (c : Cosignature H) → s.tree ≡ c.says.tree
    → ((s.old ≡ c.call.old) × (s.proof ≡ c.call.proof)) ⊎ ((s.old ≡ s.tree.size) × (s.proof ≡ []))
    → All S (proof_strings H last.size c.says.tree.size true last.root c.call.proof)
    → All S (proof_strings H last.size s.tree.size true last.root s.proof)
of_proof H S last s c e (inl f) a =
    subst (λ (p : List (List ℕ)). All S (proof_strings H last.size s.tree.size true last.root p)) (sym f.1)
    (subst (λ (x : Tree). All S (proof_strings H last.size x.size true last.root c.call.proof)) (sym e) a)
of_proof H S last s c e (inr f) a =
    subst (λ (p : List (List ℕ)). All S (proof_strings H last.size s.tree.size true last.root p)) (sym f.1)
    (no_proof_strings H S last.size s.tree.size last.root)

of_calls : (H : List ℕ → List ℕ) (S : List ℕ → Type 0) (last : Tree) (steps : List Granted) (all : List (Cosignature H)) → AreOf H steps all
    → All S (granted_strings H last (map granted_by all)) → All S (granted_strings H last steps)
unfolding granted_strings
of_calls H S last [] [] o a = a
of_calls H S last [] (c ∷ rest) o a = absurd o
of_calls H S last (s ∷ steps) [] o a = absurd o
of_calls H S last (s ∷ steps) (c ∷ rest) o a =
    let own = proof_strings H last.size c.says.tree.size true last.root c.call.proof in
    let others = granted_strings H c.says.tree (map granted_by rest) in
    let later : All S (granted_strings H s.tree (map granted_by rest)) =
    subst (λ (x : Tree). All S (granted_strings H x (map granted_by rest))) (sym o.0.0) (second_of S own others a) in
    All-append S (proof_strings H last.size s.tree.size true last.root s.proof) (granted_strings H s.tree steps)
    (of_proof H S last s c o.0.0 o.0.1 (first_of S own others a)) (of_calls H S s.tree steps rest o.1 later)

pub kept_go_back : KeptGoBack
unfolding Run
kept_go_back H sized all a D t =
    let r = run H (no_tree H) None all (starts H) a in
    let S = IsHashedOver H (map granted_by all) D in
    let strings = granted_strings H (no_tree H) (map granted_by all) in
    let u : IsTreeOf H D (newest_tree (no_tree H) r.0) = subst (IsTreeOf H D) (sym (newest_is H (no_tree H) r.0 all r.2)) t in
    let own : All S (granted_strings H (no_tree H) r.0) =
    of_calls H S (no_tree H) r.0 all r.3 (All-weaker (Contains strings) S (λ x z. inl z) strings (All-contains_itself strings)) in
    ⊎_elim
    (λ (each : All (λ (s : Granted). IsTreeOfFirst H D s.tree) r.0). inl (all_of H D r.0 all r.2 each))
    (λ (pair : CollideAmong H S). inr pair)
    (all_back H sized S r.0 D r.1 own (λ n l x z. inr (n, l, z)) u)

-- ---- order
goes_up : (H : List ℕ → List ℕ) (last tree : Tree) (p : List (List ℕ)) → TreeGoesOn H last tree p → last.size ≤ tree.size
goes_up H last tree p (inl same) = omega (arith, same.0)
goes_up H last tree p (inr (inl grown)) = omega (arith, grown.0)
goes_up H last tree p (inr (inr accepted)) = omega (arith, accepted.1)

IsNext : Cosigned → Cosigned → Type 0
IsNext last k = (k.origin ≡ last.origin) × (last.time ≤ k.time) × (last.tree.size ≤ k.tree.size)

next_over : (H : List ℕ → List ℕ) (c : Cosignature H) (bytes : List ℕ) (last : Cosigned) (over : Over) (l : Cosigned) → IsMessageOf last bytes
    → Some bytes ≡ held_by over → WasAfter H over l → MayCosign H l c.says.origin c.says.tree c.call.old c.call.proof c.call.time → c.says.time ≡ c.call.time
    → IsNext last c.says
unfolding WasAfter IsNext
next_over H c bytes last (none origin) l is e w may timed = absurd (none-some bytes (sym e))
next_over H c bytes last (state given) l is e w may timed =
    let same : bytes ≡ given = same_Some bytes given e in
    let one : l ≡ last = same_cosigned l last bytes (subst (IsMessageOf l) (sym same) w) is in
    let m = subst (λ (k : Cosigned). MayCosign H k c.says.origin c.says.tree c.call.old c.call.proof c.call.time) one may in
    (m.0, omega (arith, m.4, timed), goes_up H last.tree c.says.tree c.call.proof m.1.1)

next_of : (H : List ℕ → List ℕ) (c : Cosignature H) (bytes : List ℕ) (last : Cosigned) → IsMessageOf last bytes
    → (Some bytes ≡ held_by c.call.over) ⊎ (Some bytes ≡ Some (message c.call)) → IsNext last c.says
unfolding IsNext
next_of H c bytes last is (inl e) = let m = made c in next_over H c bytes last c.call.over m.0 is e m.1 m.2 m.3
next_of H c bytes last is (inr e) =
    let same : bytes ≡ message c.call = same_Some bytes (message c.call) e in
    let one : c.says ≡ last = same_cosigned c.says last bytes (subst (IsMessageOf c.says) (sym same) c.is) is in
    (ap (λ (k : Cosigned). k.origin) one, omega (arith, ap (λ (k : Cosigned). k.time) one), omega (arith, ap (λ (k : Cosigned). k.tree.size) one))

pub kept_are_in_order : KeptAreInOrder
unfolding AreKept CosignedInOrder IsNext
kept_are_in_order H c [] a = tt
kept_are_in_order H c (d ∷ rest) a =
    let n = next_of H d (message c.call) c.says c.is a.0 in
    (n.0, n.1, n.2, kept_are_in_order H d rest a.1)
