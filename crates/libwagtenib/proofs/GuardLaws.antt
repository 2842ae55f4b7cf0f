-- The laws of many calls of the guard.
use Rattle.std.proofs.Common.{◌≡◌, ◌∙◌, ◌⊎◌, ◌<◌, ◌≤◌, ◌^◌, ℕ, List, [], ◌∷◌, length, map, take, get_or, Option, Some, None, All, sym, subst, ap, refl, inl, inr, ⊎_elim, arith}
use Rattle.std.specs.Prelude.{Contains}
use Rattle.std.proofs.lemmas.List.{get_or-take, get_or_default, length-take-le}
use Rattle.std.proofs.lemmas.List.Elements.{All-nil, All-cons, All-head, All-tail, All-contains}
use Rattle.std.proofs.lemmas.Option.{same_Some, none-some}
use Rattle.ct_codec.proofs.Signed.{signed_texts_stand_apart}
use Rattle.ct_codec.specs.declared.fault.DecodeFault.{DecodeFault}
use Rattle.ct_codec.specs.declared.fault.DecodeFault.TheVariants.{Truncated, BadVersion, BadLeafType, BadEntryType, EmptyVector, Trailing, Memory}
use Rattle.ct_guard.proofs.History.{passed_heads_agree, passed_receipts_stand}
use Rattle.ct_guard.proofs.NewestHead.{heads_go_back}
use Rattle.ct_guard.specs.Guarded.{PassesHead, PassesReceipt}
use Rattle.ct_guard.specs.History.{Passed, ArePassed}
use Rattle.ct_guard.specs.NewestHead.{HeadStep, AreHeadSteps, IsHeadOfFirst, NewestIsOf, IsHashedForHeads}
use Rattle.ct_guard.specs.declared.refusal.HeadRefusal.{HeadRefusal}
use Rattle.ct_guard.specs.declared.refusal.HeadRefusal.TheVariants.{SizeFalls, MomentNotLater, Fork, Inconsistent}
use Rattle.ct_guard.specs.declared.refusal.ReceiptRefusal.{ReceiptRefusal}
use Rattle.ct_guard.specs.declared.refusal.ReceiptRefusal.TheVariants.{NoHead, NoLeaf, NotThere, LaterLeaf, OtherIndex}
use Rattle.ct_monitor.specs.Heads.{IsHeadOfAll}
use Rattle.ct_tree.specs.Tree.{hash_leaf, mth_of_leaves}
use Rattle.ct_tree.specs.declared.head.Head.{Head}
use Rattle.ct_verify.proofs.Agreeing.{collide_more}
use Rattle.ct_verify.specs.Hashed.{CollideAmong}
use Rattle.ct_verify.specs.ListLaws.{IsHashedInAudit}
use Rattle.ct_verify.specs.Laws.{AreHashes}
use Rattle.ct_verify.specs.Verdict.{AcceptsInclusion}
use Rattle.ct_verify.specs.declared.fault.ProofFault.{ProofFault}
use Rattle.ct_verify.specs.declared.fault.ProofFault.TheVariants.{IndexOutOfRange, PathTooLong, PathTooShort, RootMismatch, EmptyPath, FirstMismatch}
use Rattle.ct_verify.specs.declared.fault.ProofFault.TheVariants.{SizesOutOfRange}
use Rattle.libwagtenib.specs.Codes.{proof_code, leaf_code, head_code, receipt_code}
use Rattle.libwagtenib.specs.Guard.{IsStateOf, IsOfNoHead, MayFollow, GuardsFirstHead, GuardsHead, GuardsReceipt}
use Rattle.libwagtenib.specs.GuardLaws.{Over, no_state, the_state, LetsThrough, HeadCall, held_of, AreTaken, HoldsStateOf, head_step_of, head_steps_of, passed_step}
use Rattle.libwagtenib.specs.GuardLaws.{TakenAreSteps, TakenAgree, TakenGoBack, ReceiptCall, IsHashedForReceipt, ReceiptsStandInNewest, ReceiptsAreNoHeads, StatesDiffer, StatesAreReadBack}

-- ---- 0 is the number of no refusal
above_0-proof : (f : ProofFault) → 0 < proof_code f
above_0-proof IndexOutOfRange = omega arith
above_0-proof PathTooLong = omega arith
above_0-proof PathTooShort = omega arith
above_0-proof RootMismatch = omega arith
above_0-proof EmptyPath = omega arith
above_0-proof FirstMismatch = omega arith
above_0-proof SizesOutOfRange = omega arith

above_0-leaf : (f : DecodeFault) → 0 < leaf_code f
above_0-leaf Memory = omega arith
above_0-leaf Truncated = omega arith
above_0-leaf BadVersion = omega arith
above_0-leaf BadLeafType = omega arith
above_0-leaf BadEntryType = omega arith
above_0-leaf EmptyVector = omega arith
above_0-leaf Trailing = omega arith

pub above_0-head : (r : HeadRefusal) → 0 < head_code r
above_0-head SizeFalls = omega arith
above_0-head MomentNotLater = omega arith
above_0-head Fork = omega arith
above_0-head (Inconsistent f) = above_0-proof f

pub above_0-receipt : (r : ReceiptRefusal) → 0 < receipt_code r
above_0-receipt NoHead = omega arith
above_0-receipt (NoLeaf f) = above_0-leaf f
above_0-receipt (NotThere f) = above_0-proof f
above_0-receipt LaterLeaf = omega arith
above_0-receipt OtherIndex = omega arith

-- ---- hashes of an argument, by its type
pub hashes_by_type : (hashes : List (List ℕ)) → ((k : ℕ) → k < length hashes → length (get_or hashes k []) ≡ 32) → AreHashes hashes
hashes_by_type hashes told k d below = ap length (get_or_default hashes k d [] below) ∙ told k below

-- ---- one state is that of one head
one_head : (a b : Head) → a.tree_size ≡ b.tree_size → a.timestamp ≡ b.timestamp → a.root ≡ b.root → a ≡ b
one_head a b size time root =
    let first : a ≡ record { tree_size = b.tree_size; timestamp = a.timestamp; root = a.root } =
    ap (λ n. let h : Head = record { tree_size = n; timestamp = a.timestamp; root = a.root } in h) size in
    let second : record { tree_size = b.tree_size; timestamp = a.timestamp; root = a.root } ≡ record { tree_size = b.tree_size; timestamp = b.timestamp; root = a.root } =
    ap (λ t. let h : Head = record { tree_size = b.tree_size; timestamp = t; root = a.root } in h) time in
    first ∙ second ∙ ap (λ r. let h : Head = record { tree_size = b.tree_size; timestamp = b.timestamp; root = r } in h) root

pub same_head : (a b : Head) (state : List ℕ) → IsStateOf a state → IsStateOf b state → a ≡ b
same_head a b state p q =
    let parts = signed_texts_stand_apart.heads a.timestamp b.timestamp a.tree_size b.tree_size a.root b.root p.timestamp q.timestamp p.size q.size (sym p.text ∙ q.text) in
    one_head a b parts.1 parts.0 parts.2

-- ---- calls that returned 0
followed : (H : List ℕ → List ℕ) (state : List ℕ) (head : Head) (proof : List (List ℕ)) (ahead : ℕ) (before signed : List ℕ)
    → GuardsHead H 0 state head proof ahead before signed
    → (last : Head) × IsStateOf last state × MayFollow H last head proof ahead × IsStateOf head signed
followed H state head proof ahead before signed (inl z) = absurd (omega (arith, z.0))
followed H state head proof ahead before signed (inr (last, is, inl z)) = (last, is, z.1, z.2)
followed H state head proof ahead before signed (inr (last, is, inr (inl far, same))) = absurd (omega (arith, far.0))
followed H state head proof ahead before signed (inr (last, is, inr (inr (near, (r, code, stops)), same))) = absurd (omega (arith, code, above_0-head r))

was_first : (H : List ℕ → List ℕ) (head named : Head) (before signed : List ℕ) → GuardsFirstHead H 0 head named before signed → IsStateOf head signed
was_first H head named before signed (inl z) = z.2
was_first H head named before signed (inr z) = absurd (omega (arith, z.0))

pub wrote : (H : List ℕ → List ℕ) (over : Over) (head : Head) (proof : List (List ℕ)) (ahead : ℕ) (before signed : List ℕ)
    → LetsThrough H over head proof ahead before signed → IsStateOf head signed
wrote H (no_state named) head proof ahead before signed z = was_first H head named before signed z.1
wrote H (the_state state) head proof ahead before signed z = (followed H state head proof ahead before signed z).3

of_hashes : (H : List ℕ → List ℕ) (over : Over) (head : Head) (proof : List (List ℕ)) (ahead : ℕ) (before signed : List ℕ)
    → LetsThrough H over head proof ahead before signed → AreHashes proof
of_hashes H (no_state named) head proof ahead before signed z = subst AreHashes (sym z.0) (All-nil (λ (s : List ℕ). length s ≡ 32))
of_hashes H (the_state state) head proof ahead before signed z = (followed H state head proof ahead before signed z).2.2

-- ---- a head whose call was made over what the register held
over_held : (H : List ℕ → List ℕ) (last : Option Head) (held : Option (List ℕ)) (over : Over) (head : Head) (proof : List (List ℕ)) (ahead : ℕ)
    (before signed : List ℕ) → HoldsStateOf last held → held ≡ held_of over → LetsThrough H over head proof ahead before signed → PassesHead H last head proof
over_held H None held over head proof ahead before signed h e z = tt
over_held H (Some l) held (no_state named) head proof ahead before signed (state, is, h) e z = absurd (none-some state (sym e ∙ h))
over_held H (Some l) held (the_state given) head proof ahead before signed (state, is, h) e z =
    let p = followed H given head proof ahead before signed z in
    let same : given ≡ state = same_Some given state (sym e ∙ h) in
    subst (λ (o : Head). PassesHead H (Some o) head proof) (same_head p.0 l state (subst (IsStateOf p.0) same p.1) is) p.2.1

-- a register that holds a head's state already
held_already : (H : List ℕ → List ℕ) (last : Option Head) (held : Option (List ℕ)) (head : Head) (proof : List (List ℕ)) (signed : List ℕ)
    → HoldsStateOf last held → held ≡ Some signed → IsStateOf head signed → PassesHead H last head proof
held_already H None held head proof signed h e is = tt
held_already H (Some l) held head proof signed (state, at, h) e is =
    let same : signed ≡ state = same_Some signed state (sym e ∙ h) in
    inl (same_head head l state (subst (IsStateOf head) same is) at)

passes : (H : List ℕ → List ℕ) (last : Option Head) (held : Option (List ℕ)) (over : Over) (head : Head) (proof : List (List ℕ)) (ahead : ℕ)
    (before signed : List ℕ) → HoldsStateOf last held → (held ≡ held_of over) ⊎ (held ≡ Some signed) → LetsThrough H over head proof ahead before signed
    → PassesHead H last head proof
passes H last held over head proof ahead before signed h (inl e) z = over_held H last held over head proof ahead before signed h e z
passes H last held over head proof ahead before signed h (inr e) z = held_already H last held head proof signed h e (wrote H over head proof ahead before signed z)

-- ---- the laws
steps_taken : (H : List ℕ → List ℕ) (last : Option Head) (held : Option (List ℕ)) → HoldsStateOf last held → (calls : List (HeadCall H))
    → AreTaken H held calls → AreHeadSteps H last (head_steps_of calls)
unfolding AreTaken AreHeadSteps
steps_taken H last held h [] a = tt
steps_taken H last held h (c ∷ calls) a =
    let is = wrote H c.over c.head c.proof c.ahead c.before c.signed c.returned in (
      passes H last held c.over c.head c.proof c.ahead c.before c.signed h a.0 c.returned,
      of_hashes H c.over c.head c.proof c.ahead c.before c.signed c.returned,
      steps_taken H (Some c.head) (Some c.signed) (c.signed, is, refl) calls a.1,
    )

pub taken_are_steps : TakenAreSteps
taken_are_steps H last held h calls a = steps_taken H last held h calls a

abbrev IsItsHead : (List ℕ → List ℕ) → Passed → Type 0
IsItsHead H p = IsHeadOfAll H p.leaves p.head

with_lists : (H : List ℕ → List ℕ) (last : Option Head) (passed : List Passed) → AreHeadSteps H last (map passed_step passed) → All (IsItsHead H) passed
    → ArePassed H last passed
unfolding AreHeadSteps ArePassed
with_lists H last [] a heads = tt
with_lists H last (p ∷ passed) a heads =
    (a.0, a.1, All-head (IsItsHead H) p passed heads, with_lists H (Some p.head) passed a.2 (All-tail (IsItsHead H) p passed heads))

pub taken_agree : TakenAgree
taken_agree H sized last held h calls a passed e heads =
    let steps : AreHeadSteps H last (map passed_step passed) = subst (AreHeadSteps H last) (sym e) (taken_are_steps H last held h calls a) in
    passed_heads_agree H sized last passed (with_lists H last passed steps heads)

pub taken_go_back : TakenGoBack
taken_go_back H sized last held h calls a D newest = heads_go_back H sized last (head_steps_of calls) D (taken_are_steps H last held h calls a) newest

-- ---- receipts
let_through : (H : List ℕ → List ℕ) (state leaf : List ℕ) (index : ℕ) (path : List (List ℕ)) → GuardsReceipt H 0 state leaf index path
    → (last : Head) × IsStateOf last state × PassesReceipt H (Some last) leaf index path
let_through H state leaf index path (inl z) = absurd (omega (arith, z.0))
let_through H state leaf index path (inr (last, is, inl z)) = (last, is, z.1)
let_through H state leaf index path (inr (last, is, inr (r, code, stops))) = absurd (omega (arith, code, above_0-receipt r))

-- each head that has leaves is that of a beginning of a list, by its call
pub of_one : (H : List ℕ → List ℕ) (D : List (List ℕ)) (calls : List (HeadCall H)) → All (λ (s : HeadStep). IsHeadOfFirst H D s.head) (head_steps_of calls)
    → All (λ (c : HeadCall H). IsHeadOfFirst H D c.head) calls
of_one H D [] all = All-nil (λ (c : HeadCall H). IsHeadOfFirst H D c.head)
of_one H D (c ∷ calls) all =
    All-cons (λ (c : HeadCall H). IsHeadOfFirst H D c.head) c calls
    (All-head (λ (s : HeadStep). IsHeadOfFirst H D s.head) (head_step_of c) (head_steps_of calls) all)
    (of_one H D calls (All-tail (λ (s : HeadStep). IsHeadOfFirst H D s.head) (head_step_of c) (head_steps_of calls) all))

stands : (H : List ℕ → List ℕ) → ((x : List ℕ) → length (H x) ≡ 32) → (D : List (List ℕ)) (last : Head) (leaf : List ℕ) (index : ℕ)
    (path : List (List ℕ)) (T : List ℕ → Type 0)
    → ((n : ℕ) → n ≤ length D → (x : List ℕ) → IsHashedInAudit H (take n D) leaf index path x → T x)
    → IsHeadOfFirst H D last → AcceptsInclusion H (hash_leaf H leaf) index last.tree_size path last.root
    → ((index < length D) × (leaf ≡ get_or D index [])) ⊎ CollideAmong H T
stands H sized D last leaf index path T more f accepts =
    let g = f (omega (arith, accepts.0)) in
    let E = take last.tree_size D in
    let size : last.tree_size ≡ length E = sym (length-take-le last.tree_size D g.0) in
    ⊎_elim
    (λ (z : (index < length E) × (leaf ≡ get_or E index [])).
    inl (omega (arith, g.0, accepts.0), z.1 ∙ get_or-take last.tree_size D index [] accepts.0))
    (λ (pair : CollideAmong H (IsHashedInAudit H E leaf index path)).
    inr (collide_more H (IsHashedInAudit H E leaf index path) T (more last.tree_size g.0) pair))
    (passed_receipts_stand H sized last E leaf index path (size, g.1) accepts)

pub receipts_stand : ReceiptsStandInNewest
receipts_stand H sized last held h calls a D newest c among r over =
    let T = IsHashedForReceipt H last calls D r in
    let S = IsHashedForHeads H last (head_steps_of calls) D in
    let p = let_through H r.state r.leaf r.index r.path r.returned in
    let is = wrote H c.over c.head c.proof c.ahead c.before c.signed c.returned in
    let same : p.0 ≡ c.head = same_head p.0 c.head r.state p.1 (subst (IsStateOf c.head) (sym over) is) in
    ⊎_elim
    (λ (all : All (λ (s : HeadStep). IsHeadOfFirst H D s.head) (head_steps_of calls)).
    stands H sized D p.0 r.leaf r.index r.path T (λ n l x w. inr (n, l, w))
    (subst (IsHeadOfFirst H D) (sym same) (All-contains (λ (c : HeadCall H). IsHeadOfFirst H D c.head) calls c (of_one H D calls all) among)) p.2.1)
    (λ (pair : CollideAmong H S). inr (collide_more H S T (λ x w. inl w) pair))
    (taken_go_back H sized last held h calls a D newest)

pub receipts_are_no_heads : ReceiptsAreNoHeads
receipts_are_no_heads H r head is =
    let p = (let_through H r.state r.leaf r.index r.path r.returned).2.0 in
    signed_texts_stand_apart.kinds head.timestamp head.tree_size p.0 head.root p.1 p.2 (sym is.text ∙ p.3.text)

-- ---- states
pub states_differ : StatesDiffer
states_differ = same_head

pub states_are_read_back : StatesAreReadBack
states_are_read_back head state s code before after (inl (bad, inl none, kept)) = absurd (none head s)
states_are_read_back head state s code before after (inl (bad, inr none, kept)) = absurd (none head s)
states_are_read_back head state s code before after (inr (found, old, f, o, inl read)) = (read.0, read.2 ∙ same_head found head state f s)
states_are_read_back head state s code before after (inr (found, old, f, o, inr back)) = absurd (back.1 (inl (same_head found old state f o)))
