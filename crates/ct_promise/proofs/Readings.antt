-- Elements with a tag: an element that is read is present, and an element that is present is read.
use Rattle.std.proofs.Common.{◌≡◌, ◌<◌, ◌+◌, ℕ, suc, Bool, true, false, cond, eqb, List, [], ◌∷◌, ◌++◌, length, take, drop, Option, Some, None, Result, Ok, Err, refl, sym, ap, subst, ◌∙◌, ◌⊎◌, inl, inr, arith}
use Rattle.std.proofs.lemmas.Bool.{eqb-true, cases_lt, ne_eqb}
use Rattle.std.proofs.lemmas.List.{append-nil, nil_from_length, get_or-drop, get_or-take, get_or_past, length-take}
use Rattle.std.proofs.Math.Seq.{take-append_seam, drop-append_seam}
use Rattle.ct_promise.specs.declared.der_fault.DerFault.TheVariants.{OtherTag, Trailing}
use Rattle.ct_promise.specs.Element.{IsTlv}
use Rattle.ct_promise.specs.DerReading.{◌>>=◌, element_at, expected_at, only_at, optional_at}
use Rattle.ct_promise.specs.DerLaws.{IsBytes}
use Rattle.ct_promise.proofs.Elements.{read_elements_are_there, elements_are_read, bind_ok}

-- ---- an element that is present is read

same_tag : (n : ℕ) → eqb n n ≡ true
same_tag n = grind arith

pub expected_here : (tag : ℕ) (c x r : List ℕ) → IsTlv tag c x → expected_at tag (x ++ r) ≡ Ok (c, r)
unfolding expected_at
expected_here tag c x r is = rw (elements_are_read tag c x r is, same_tag tag) refl

pub only_here : (tag : ℕ) (c x : List ℕ) → IsTlv tag c x → only_at tag x ≡ Ok c
unfolding only_at
only_here tag c x is =
    let e : expected_at tag x ≡ Ok (c, []) = ap (expected_at tag) (sym (append-nil x)) ∙ expected_here tag c x [] is in
    rw e refl

-- the bytes do not begin with this tag
abbrev pub NotFirst : ℕ → List ℕ → Type 0
NotFirst tag [] = Unit {0}
NotFirst tag (x ∷ b) = x ≡ tag → ⊥

pub absent : (tag : ℕ) (r : List ℕ) → NotFirst tag r → optional_at tag r ≡ Ok (None, r)
unfolding optional_at
absent tag [] h = refl
absent tag (x ∷ b) h = rw (ne_eqb x tag h) refl

pub present : (tag : ℕ) (c x r : List ℕ) → IsTlv tag c x → optional_at tag (x ++ r) ≡ Ok (Some c, r)
unfolding optional_at
present tag c x r is =
    let first : x ++ r ≡ tag ∷ ((is.size ++ c) ++ r) = ap (λ (y : List ℕ). y ++ r) is.text in
    let read : expected_at tag (tag ∷ ((is.size ++ c) ++ r)) ≡ Ok (c, r) = ap (expected_at tag) (sym first) ∙ expected_here tag c x r is in
    ap (optional_at tag) first ∙ rw (same_tag tag, read) refl

pub other_first : (tag t : ℕ) (c x r : List ℕ) → IsTlv t c x → (t ≡ tag → ⊥) → NotFirst tag (x ++ r)
other_first tag t c x r is other = subst (λ (y : List ℕ). NotFirst tag (y ++ r)) (sym is.text) other

pub some_bytes : (tag : ℕ) (c x : List ℕ) → IsTlv tag c x → 0 < length x
some_bytes tag c x is = let e = ap length is.text in omega (arith, e)

-- ---- an element that is read is present

pub bytes_behind : (x r : List ℕ) → IsBytes (x ++ r) → IsBytes r
bytes_behind x r h =
    let all : IsBytes (drop (length x) (x ++ r)) = λ i. rw get_or-drop (h (length x + i)) in
    subst IsBytes (drop-append_seam x r) all

pub bytes_before : (x r : List ℕ) → IsBytes (x ++ r) → IsBytes x
bytes_before x r h =
    let all : IsBytes (take (length x) (x ++ r)) = λ i. elim (cases_lt i (length x)) [
      | inl lt ↦ rw (get_or-take (length x) (x ++ r) i 0 lt) (h i)
      | inr le ↦ rw (get_or_past (take (length x) (x ++ r)) i 0 (omega (arith, length-take (length x) (x ++ r), le))) (omega arith)
    ] in
    subst IsBytes (take-append_seam x r) all

tail_bytes : (a : ℕ) (x : List ℕ) → IsBytes (a ∷ x) → IsBytes x
tail_bytes a x h i = h (suc i)

pub content_bytes : (tag : ℕ) (c x : List ℕ) → IsTlv tag c x → IsBytes x → IsBytes c
content_bytes tag c x is h = bytes_behind is.size c (tail_bytes tag (is.size ++ c) (subst IsBytes is.text h))

-- an element in front, the bytes after it, and that all of them are bytes
pub record Front (tag : ℕ) (b c r : List ℕ) : Type 0 where
  pub x : List ℕ
  pub is : IsTlv tag c x
  pub text : b ≡ x ++ r
  pub inner : IsBytes c
  pub rest : IsBytes r

pub element_found : (b c r : List ℕ) (tag : ℕ) → IsBytes b → element_at b ≡ Ok (tag, c, r) → Front tag b c r
element_found b c r tag fits e =
    let f = read_elements_are_there b c r tag fits e in
    let h : IsBytes (f.0 ++ r) = subst IsBytes f.2 fits in
    record { x = f.0; is = f.1; text = f.2; inner = content_bytes tag c f.0 f.1 (bytes_before f.0 r h); rest = bytes_behind f.0 r h }

chosen_ok : {A F : Type 0} (b : Bool) (d : F) (x : A) (y : A) (r : Result A F) → r ≡ cond b (Ok x) (Err d) → r ≡ Ok y → (b ≡ true) × (x ≡ y)
chosen_ok true d x y r e f = (refl, cc)
chosen_ok false d x y r e f = absurd cc

pub expected_found : (tag : ℕ) (b : List ℕ) (v : List ℕ × List ℕ) → IsBytes b → expected_at tag b ≡ Ok v → Front tag b v.0 v.1
unfolding expected_at
expected_found tag b v fits e =
    let a = bind_ok (element_at b) (λ e. cond (eqb e.0 tag) (Ok (e.1, e.2)) (Err OtherTag)) v e in
    let g = chosen_ok (eqb a.0.0 tag) OtherTag (a.0.1, a.0.2) v (cond (eqb a.0.0 tag) (Ok (a.0.1, a.0.2)) (Err OtherTag)) refl a.2 in
    let front = element_found b a.0.1 a.0.2 a.0.0 fits a.1 in
    subst (λ (p : List ℕ × List ℕ). Front tag b p.0 p.1) g.1 (subst (λ (t : ℕ). Front t b a.0.1 a.0.2) (eqb-true a.0.0 tag g.0) front)

-- the element that the bytes consist of
pub record Whole (tag : ℕ) (b c : List ℕ) : Type 0 where
  pub is : IsTlv tag c b
  pub inner : IsBytes c

pub whole_of : (tag : ℕ) (b c r : List ℕ) → Front tag b c r → length r ≡ 0 → Whole tag b c
whole_of tag b c r f none =
    let same : b ≡ f.x = f.text ∙ ap (λ (y : List ℕ). f.x ++ y) (nil_from_length r none) ∙ append-nil f.x in
    record { is = subst (λ (y : List ℕ). IsTlv tag c y) (sym same) f.is; inner = f.inner }

pub only_found : (tag : ℕ) (b c : List ℕ) → IsBytes b → only_at tag b ≡ Ok c → Whole tag b c
unfolding only_at
only_found tag b c fits e =
    let a = bind_ok (expected_at tag b) (λ e. cond (eqb (length e.1) 0) (Ok e.0) (Err Trailing)) c e in
    let g = chosen_ok (eqb (length a.0.1) 0) Trailing a.0.0 c (cond (eqb (length a.0.1) 0) (Ok a.0.0) (Err Trailing)) refl a.2 in
    subst (λ (y : List ℕ). Whole tag b y) g.1 (whole_of tag b a.0.0 a.0.1 (expected_found tag b a.0 fits a.1) (eqb-true (length a.0.1) 0 g.0))

-- an element or nothing, and the bytes after it
pub record Maybe (tag : ℕ) (b r : List ℕ) : Type 0 where
  pub x : List ℕ
  pub is : (x ≡ []) ⊎ ((c : List ℕ) × IsTlv tag c x)
  pub text : b ≡ x ++ r
  pub rest : IsBytes r

if_here : {A F : Type 0} (b : Bool) (p q : Result A F) (y : A) → cond b p q ≡ Ok y → ((b ≡ true) × (p ≡ Ok y)) ⊎ ((b ≡ false) × (q ≡ Ok y))
if_here true p q y e = inl (refl, e)
if_here false p q y e = inr (refl, e)

pub one_ok : {A F : Type 0} (x y : A) (r : Result A F) → r ≡ Ok x → r ≡ Ok y → x ≡ y
one_ok x y r p q = cc

nothing_there : (tag : ℕ) (b : List ℕ) → IsBytes b → Maybe tag b b
nothing_there tag b fits = record { x = []; is = inl refl; text = refl; rest = fits }

pub optional_found : (tag : ℕ) (b : List ℕ) (v : Option (List ℕ) × List ℕ) → IsBytes b → optional_at tag b ≡ Ok v → Maybe tag b v.1
unfolding optional_at
optional_found tag [] v fits e =
    subst (λ (p : Option (List ℕ) × List ℕ). Maybe tag [] p.1) (one_ok (None, []) v (optional_at tag []) refl e) (nothing_there tag [] fits)
optional_found tag (x ∷ b) v fits e =
    elim (if_here (eqb x tag) (expected_at tag (x ∷ b) >>= λ e. Ok (Some e.0, e.1)) (Ok (None, x ∷ b)) v e) [
      | inl p ↦ (let a = bind_ok (expected_at tag (x ∷ b)) (λ e. Ok (Some e.0, e.1)) v p.1 in
          let f = expected_found tag (x ∷ b) a.0 fits a.1 in
          subst (λ (p : Option (List ℕ) × List ℕ). Maybe tag (x ∷ b) p.1) (one_ok (Some a.0.0, a.0.1) v (Ok (Some a.0.0, a.0.1)) refl a.2)
          (record { x = f.x; is = inr (a.0.0, f.is); text = f.text; rest = f.rest }))
      | inr p ↦ subst (λ (p : Option (List ℕ) × List ℕ). Maybe tag (x ∷ b) p.1) (one_ok (None, x ∷ b) v (Ok (None, x ∷ b)) refl p.1) (nothing_there tag (x ∷ b) fits)
    ]
