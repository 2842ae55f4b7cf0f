-- The TBSCertificate without the extension: it is written, no bytes have two such cuts, and putting the extension back gives the bytes.
use Rattle.std.proofs.Common.{◌≡◌, ◌<◌, ℕ, Bool, true, false, cond, eqb, List, [], ◌++◌, length, take, drop, Result, Ok, refl, sym, ap, ◌∙◌, inl, inr, arith}
use Rattle.std.proofs.lemmas.Bool.{eqb-true, eqb-false, ne_eqb}
use Rattle.std.proofs.lemmas.List.{append-nil, length-append, nil_from_length}
use Rattle.std.proofs.Math.Seq.{take-append_seam, drop-append_seam}
use Rattle.ct_promise.specs.Element.{IsTlv}
use Rattle.ct_promise.specs.DerWriting.{element_text}
use Rattle.ct_promise.proofs.Elements.{elements_stand_apart}
use Rattle.ct_promise.proofs.Readings.{one_ok}
use Rattle.ct_promise.proofs.DerWritten.{elements_are_written, written_elements_are_there}
use Rattle.ct_promise.specs.declared.fault.CutFault.{CutFault}
use Rattle.ct_promise.specs.Tbs.{AreFields, tbs_fields, IsExtensionsField, Parts}
use Rattle.ct_promise.specs.Reading.{after_fields, extensions_text, parts_cut_at, without}
use Rattle.ct_promise.specs.Laws.{WrittenCutsAreThere, CutsAreWritten, OneCut, PuttingBack}
use Rattle.ct_promise.proofs.Here.{head_here, head_alone, cuts_are_read}
use Rattle.ct_promise.proofs.Shorter.{lists_fit, field_fits, fields_fit}

-- ---- written

field_there : (list : List ℕ) (none : Bool) → eqb (length list) 0 ≡ none → length list < 4294967296 → length (element_text 48 list) < 4294967296
    → IsExtensionsField list (cond none [] (element_text 163 (element_text 48 list)))
field_there list true e low top = inl (nil_from_length list (eqb-true (length list) 0 e), refl)
field_there list false e low top =
    let other = eqb-false (length list) 0 e in
    inr (
      element_text 48 list,
      omega (arith, other),
      written_elements_are_there 48 list (omega arith) (omega arith) low,
      written_elements_are_there 163 (element_text 48 list) (omega arith) (omega arith) top,
    )

pub written_cuts_are_there : WrittenCutsAreThere
unfolding without
written_cuts_are_there identifier p b is =
    let list = p.front ++ p.behind in (
      extensions_text list,
      field_there list (eqb (length list) 0) refl (lists_fit identifier p b is) (field_fits identifier p b is),
      written_elements_are_there 48 (p.head ++ extensions_text list) (omega arith) (omega arith) (fields_fit identifier p b is),
    )

not_zero : (list : List ℕ) → 0 < length list → eqb (length list) 0 ≡ false
not_zero list some = ne_eqb (length list) 0 (λ e. absurd (omega (arith, some, e)))

field_written : (list x : List ℕ) → IsExtensionsField list x → x ≡ extensions_text list
field_written list x (inl e) = e.1 ∙ sym (ap extensions_text e.0)
field_written list x (inr (inner, some, is, outer)) =
    elements_are_written 163 inner x outer ∙ ap (element_text 163) (elements_are_written 48 list inner is)
    ∙ sym (ap (λ (b : Bool). cond b [] (element_text 163 (element_text 48 list))) (not_zero list some))

pub cuts_are_written : CutsAreWritten
unfolding without
cuts_are_written p c (field, is, text) =
    elements_are_written 48 (p.head ++ field) c text ∙ ap (λ (x : List ℕ). element_text 48 (p.head ++ x)) (field_written (p.front ++ p.behind) field is)

one_parts : (p q : Parts) (r : Result Parts CutFault) → r ≡ Ok p → r ≡ Ok q → p ≡ q
one_parts p q r e f = one_ok p q r e f

pub one_cut : OneCut
one_cut identifier b c d (p, is, out) (q, has, left) =
    let same = one_parts p q (parts_cut_at identifier b) (cuts_are_read identifier p b is) (cuts_are_read identifier q b has) in
    cuts_are_written p c out ∙ ap without same ∙ sym (cuts_are_written q d left)

-- ---- put back

after_both : (list h x : List ℕ) → AreFields tbs_fields h → IsExtensionsField list x → after_fields tbs_fields (h ++ x) ≡ Ok x
after_both list h x are (inl e) = ap (λ (y : List ℕ). after_fields tbs_fields (h ++ y)) e.1 ∙ head_alone h are ∙ ap (λ (y : List ℕ). Ok y) (sym e.1)
after_both list h x are (inr (inner, some, is, outer)) = head_here h inner x are outer

-- the bytes before the same bytes
same_front : (a b x : List ℕ) → a ++ x ≡ b ++ x → a ≡ b
same_front a b x e =
    let size = sym (length-append a x) ∙ ap length e ∙ length-append b x in
    let n : length a ≡ length b = omega (arith, size) in
    sym (take-append_seam a x) ∙ ap (take (length a)) e ∙ ap (λ (k : ℕ). take k (b ++ x)) n ∙ take-append_seam b x

-- two lists of equal length in front of others
same_parts : (a b x y : List ℕ) → length a ≡ length b → a ++ x ≡ b ++ y → (a ≡ b) × (x ≡ y)
same_parts a b x y n e = (
  sym (take-append_seam a x) ∙ ap (take (length a)) e ∙ ap (λ (k : ℕ). take k (b ++ y)) n ∙ take-append_seam b y,
  sym (drop-append_seam a x) ∙ ap (drop (length a)) e ∙ ap (λ (k : ℕ). drop k (b ++ y)) n ∙ drop-append_seam b y,
)

same_content : (t : ℕ) (c d x y : List ℕ) → IsTlv t c x → IsTlv t d y → x ≡ y → c ≡ d
same_content t c d x y p q e = (elements_stand_apart t t c d x y [] [] p q (append-nil x ∙ e ∙ sym (append-nil y))).1

no_text : {A : Type 0} (t : ℕ) (c x : List ℕ) → IsTlv t c x → x ≡ [] → A
no_text t c x is e = let size = sym (ap length is.text) ∙ ap length e in absurd (omega (arith, size))

same_list : (l m x y : List ℕ) → IsExtensionsField l x → IsExtensionsField m y → x ≡ y → l ≡ m
same_list l m x y (inl p) (inl q) e = p.0 ∙ sym q.0
same_list l m x y (inl p) (inr (inner, some, is, outer)) e = no_text 163 inner y outer (sym e ∙ p.1)
same_list l m x y (inr (inner, some, is, outer)) (inl q) e = no_text 163 inner x outer (e ∙ q.1)
same_list l m x y (inr (i, s, is, outer)) (inr (j, t, has, whole)) e = same_content 48 l m i j is has (same_content 163 i j x y outer whole e)

one_rest : (x y : List ℕ) (r : Result (List ℕ) CutFault) → r ≡ Ok x → r ≡ Ok y → x ≡ y
one_rest x y r p q = one_ok x y r p q

-- the texts of one list in one head
same_whole : (h i : List ℕ) (l m b d u v x y : List ℕ) → h ≡ i → l ≡ m → IsTlv 48 l u → IsTlv 48 m v → IsTlv 163 u x → IsTlv 163 v y → IsTlv 48 (h ++ x) b
    → IsTlv 48 (i ++ y) d → b ≡ d
same_whole h i l m b d u v x y same list a0 a1 b0 b1 c0 c1 =
    let inner : u ≡ v = elements_are_written 48 l u a0 ∙ ap (element_text 48) list ∙ sym (elements_are_written 48 m v a1) in
    let field : x ≡ y = elements_are_written 163 u x b0 ∙ ap (element_text 163) inner ∙ sym (elements_are_written 163 v y b1) in
    elements_are_written 48 (h ++ x) b c0 ∙ ap (λ (k : List ℕ). element_text 48 (k ++ x)) same ∙ ap (λ (k : List ℕ). element_text 48 (i ++ k)) field
    ∙ sym (elements_are_written 48 (i ++ y) d c1)

pub putting_back : PuttingBack
putting_back i j p q b d c is has (x, out, whole) (y, left, rest) cut size =
    let content = same_content 48 (p.head ++ x) (q.head ++ y) c c whole rest refl in
    let field : x ≡ y = one_rest x y (after_fields tbs_fields (p.head ++ x)) (after_both (p.front ++ p.behind) p.head x is.fields out)
    (ap (after_fields tbs_fields) content ∙ after_both (q.front ++ q.behind) q.head y has.fields left) in
    let head : p.head ≡ q.head = same_front p.head q.head x (content ∙ ap (λ (k : List ℕ). q.head ++ k) (sym field)) in
    let list = same_list (p.front ++ p.behind) (q.front ++ q.behind) x y out left field in
    let parts = same_parts p.front q.front p.behind q.behind size list in
    let all : p.front ++ (p.cut ++ p.behind) ≡ q.front ++ (q.cut ++ q.behind) =
    ap (λ (k : List ℕ). k ++ (p.cut ++ p.behind)) parts.0 ∙ ap (λ (k : List ℕ). q.front ++ (k ++ p.behind)) cut
    ∙ ap (λ (k : List ℕ). q.front ++ (q.cut ++ k)) parts.1 in
    same_whole p.head q.head (p.front ++ (p.cut ++ p.behind)) (q.front ++ (q.cut ++ q.behind)) b d is.list has.list is.field has.field head all is.list_is
    has.list_is is.field_is has.field_is is.text has.text
