-- Anything in the grammar is read.
use Rattle.std.proofs.Common.{◌≡◌, ◌<◌, ◌≤◌, ℕ, zero, suc, Bool, true, false, cond, List, [], ◌∷◌, ◌++◌, length}
use Rattle.std.proofs.Common.{Option, Some, None, Result, Ok, Err, refl, sym, ap, subst, ◌∙◌, inl, inr, append_assoc, arith}
use Rattle.std.specs.Prelude.{bytes_eq}
use Rattle.std.specs.List.{AllByRecursion}
use Rattle.std.proofs.lemmas.List.{append-nil, length-append}
use Rattle.std.proofs.lemmas.Slice.Eq.{bytes_eq-Decides}
use Rattle.ct_promise.specs.Element.{IsTlv}
use Rattle.ct_promise.specs.DerReading.{◌>>=◌, only_at, optional_at}
use Rattle.ct_promise.proofs.Readings.{expected_here, only_here, NotFirst, absent, present, other_first, some_bytes, one_ok}
use Rattle.ct_promise.specs.declared.field.Place.{Place}
use Rattle.ct_promise.specs.declared.field.Place.TheVariants as at
use Rattle.ct_promise.specs.declared.fault.CutFault.{CutFault}
use Rattle.ct_promise.specs.declared.fault.CutFault.TheVariants.{SecondExtension}
use Rattle.ct_promise.specs.Tbs.{Field, must, may, IsFieldOf, AreFields, before_key, from_key, tbs_fields, IsExtensionWith, IsOther, all_joined, AreOthers, IsTbsOf, IsKeyOf}
use Rattle.ct_promise.specs.Reading.{field_after, after_fields, extension_with_at, others_at, sole_at, list_at, parts_cut_at, whole_tbs_at, key_at}
use Rattle.ct_promise.specs.Laws.{CutsAreRead, OneTbs, OneKey}
use Rattle.ct_promise.proofs.Loops.{Read, others_step, others_next, sole_step, sole_next}
use Rattle.ct_promise.proofs.Found.{before_rest}

-- ---- fields

-- the tag differs from the tag of each of these fields
abbrev Differs : ℕ → List Field → Type 0
Differs tag [] = Unit {0}
Differs tag (f ∷ fs) = (f.tag ≡ tag → ⊥) × Differs tag fs

not_first : (tag : ℕ) (fs : List Field) (h r : List ℕ) → AreFields fs h → Differs tag fs → NotFirst tag r → NotFirst tag (h ++ r)
not_first tag [] h r are differs last = subst (λ (y : List ℕ). NotFirst tag (y ++ r)) (sym are) last
not_first tag (f ∷ fs) h r (x, s, inl none, are, text) differs last =
    let rest = not_first tag fs s r are differs.1 last in
    subst (λ (y : List ℕ). NotFirst tag (y ++ r)) (sym (text ∙ ap (λ (y : List ℕ). y ++ s) none.1)) rest
not_first tag (f ∷ fs) h r (x, s, inr is, are, text) differs last =
    subst (λ (y : List ℕ). NotFirst tag y) (sym (ap (λ (y : List ℕ). y ++ r) text ∙ append_assoc x s r))
    (other_first tag f.tag is.0 x (s ++ r) is.1 differs.0)

-- the tag of each optional field differs from the tags of all fields after it, and the bytes r do not begin with it
abbrev Sorted : List Field → List ℕ → Type 0
Sorted [] r = Unit {0}
Sorted (f ∷ fs) r = (f.optional ≡ true → Differs f.tag fs × NotFirst f.tag r) × Sorted fs r

not_true : {A : Type 0} → false ≡ true → A
not_true e = absurd cc

field_here : (optional : Bool) (tag : ℕ) (place : Place) (x r : List ℕ)
    → IsFieldOf (record { optional = optional; tag = tag; place = place }) x → (optional ≡ true → NotFirst tag r)
    → field_after (record { optional = optional; tag = tag; place = place }) (x ++ r) ≡ Ok r
unfolding field_after
field_here true tag place x r (inl none) other = rw (none.1, absent tag r (other refl)) refl
field_here true tag place x r (inr is) other = rw (present tag is.0 x r is.1) refl
field_here false tag place x r (inl none) other = not_true none.0
field_here false tag place x r (inr is) other = rw (expected_here tag is.0 x r is.1) refl

fields_here : (fs : List Field) (h r : List ℕ) → AreFields fs h → Sorted fs r → after_fields fs (h ++ r) ≡ Ok r
fields_here [] h r are sorted = ap (λ (y : List ℕ). Ok (y ++ r)) are
fields_here (f ∷ fs) h r (x, s, is, are, text) sorted =
    let one = field_here f.optional f.tag f.place x (s ++ r) is
    (λ e. not_first f.tag fs s r are (sorted.0 e).0 (sorted.0 e).1) in
    ap (after_fields (f ∷ fs)) (ap (λ (y : List ℕ). y ++ r) text ∙ append_assoc x s r)
    ∙ ap (λ (v : Result (List ℕ) CutFault). v >>= λ r. after_fields fs r) one ∙ fields_here fs s r are sorted.1

-- ---- extensions

optional_here : (tag : ℕ) (place : Place) (x r : List ℕ) → IsFieldOf (may tag place) x → NotFirst tag r
    → (o : Option (List ℕ)) × (optional_at tag (x ++ r) ≡ Ok (o, r))
optional_here tag place x r (inl none) other = (None, ap (λ (y : List ℕ). optional_at tag (y ++ r)) none.1 ∙ absent tag r other)
optional_here tag place x r (inr is) other = (Some is.0, present tag is.0 x r is.1)

extension_here : (identifier value x r : List ℕ) → IsExtensionWith identifier value x → extension_with_at (x ++ r) ≡ Ok (identifier, value, r)
unfolding extension_with_at
extension_here identifier value x r is =
    let other : NotFirst 1 is.content =
    subst (λ (y : List ℕ). NotFirst 1 y) (append-nil is.content) (other_first 1 4 value is.content [] is.content_is (λ q. absurd (omega (arith, q)))) in
    let flag = optional_here 1 at.Extensions is.critical is.content is.critical_is other in
    rw (
      expected_here 48 (is.name ++ (is.critical ++ is.content)) x r is.text,
      expected_here 6 identifier is.name (is.critical ++ is.content) is.name_is,
      flag.1,
      only_here 4 value is.content is.content_is,
    ) refl

extension_some : (identifier value x : List ℕ) → IsExtensionWith identifier value x → 0 < length x
extension_some identifier value x is = some_bytes 48 (is.name ++ (is.critical ++ is.content)) x is.text

unequal : (x y : List ℕ) (b : Bool) → bytes_eq x y ≡ b → (x ≡ y → ⊥) → b ≡ false
unequal x y true e other = absurd (other ((bytes_eq-Decides x y).0 e))
unequal x y false e other = refl

differs_name : (x y : List ℕ) → (x ≡ y → ⊥) → bytes_eq x y ≡ false
differs_name x y other = unequal x y (bytes_eq x y) refl other

equals_name : (x : List ℕ) → bytes_eq x x ≡ true
equals_name x = (bytes_eq-Decides x x).1 refl

nothing_read : (identifier : List ℕ) (n : ℕ) → others_at identifier n [] ≡ Ok []
unfolding others_at
nothing_read identifier zero = refl
nothing_read identifier (suc n) = refl

others_here : (identifier : List ℕ) (L : List (List ℕ)) (n : ℕ) → length (all_joined L) ≤ n → AllByRecursion (IsOther identifier) L
    → others_at identifier n (all_joined L) ≡ Ok []
others_here identifier [] n room all = nothing_read identifier n
others_here identifier (x ∷ L) n room ((other, value, differs, is), all) =
    let some = extension_some other value x is in
    let size = length-append x (all_joined L) in
    let step = others_next identifier n (x ++ all_joined L) (omega (arith, size, some)) room in
    step.2 ∙ ap (λ (v : Result Read CutFault). v >>= others_step identifier step.0) (extension_here other value x (all_joined L) is)
    ∙ ap (λ (b : Bool). cond b (Err SecondExtension) (others_at identifier step.0 (all_joined L))) (differs_name other identifier differs)
    ∙ others_here identifier L step.0 (omega (arith, size, some, room, step.1)) all

sole_of_one : (identifier value x behind : List ℕ) (n : ℕ) → length (x ++ behind) ≤ n → IsExtensionWith identifier value x → AreOthers identifier behind
    → sole_at identifier n (x ++ behind) ≡ Ok (x ++ behind, value, behind)
sole_of_one identifier value x behind n room is others =
    let some = extension_some identifier value x is in
    let size = length-append x behind in
    let step = sole_next identifier n (x ++ behind) (omega (arith, size, some)) room in
    let none : others_at identifier (length behind) behind ≡ Ok [] =
    ap (λ (y : List ℕ). others_at identifier (length y) y) others.2 ∙ others_here identifier others.0 (length (all_joined others.0)) (omega arith) others.1 in
    step.2 ∙ ap (λ (v : Result Read CutFault). v >>= sole_step identifier step.0 (x ++ behind)) (extension_here identifier value x behind is)
    ∙ ap (λ (b : Bool). cond b (others_at identifier (length behind) behind >>= λ none. Ok (x ++ behind, value, behind)) (sole_at identifier step.0 behind))
    (equals_name identifier)
    ∙ ap (λ (v : Result (List ℕ) CutFault). v >>= λ none. Ok (x ++ behind, value, behind)) none

sole_here : (identifier : List ℕ) (L : List (List ℕ)) (value x behind : List ℕ) (n : ℕ) → length (all_joined L ++ (x ++ behind)) ≤ n
    → AllByRecursion (IsOther identifier) L → IsExtensionWith identifier value x → AreOthers identifier behind
    → sole_at identifier n (all_joined L ++ (x ++ behind)) ≡ Ok (x ++ behind, value, behind)
sole_here identifier [] value x behind n room all is others = sole_of_one identifier value x behind n room is others
sole_here identifier (y ∷ L) value x behind n room ((other, v, differs, has), all) is others =
    let some = extension_some other v y has in
    let rest = all_joined L ++ (x ++ behind) in
    let text : (y ++ all_joined L) ++ (x ++ behind) ≡ y ++ rest = append_assoc y (all_joined L) (x ++ behind) in
    let whole = ap length text in
    let size = length-append y rest in
    let step = sole_next identifier n (y ++ rest) (omega (arith, size, some)) (omega (arith, whole, room)) in
    ap (sole_at identifier n) text ∙ step.2
    ∙ ap (λ (v : Result Read CutFault). v >>= sole_step identifier step.0 (y ++ rest)) (extension_here other v y rest has)
    ∙ ap (λ (b : Bool). cond b (others_at identifier (length rest) rest >>= λ none. Ok (y ++ rest, v, rest)) (sole_at identifier step.0 rest))
    (differs_name other identifier differs)
    ∙ sole_here identifier L value x behind step.0 (omega (arith, whole, size, some, room, step.1)) all is others

-- ---- TBSCertificates

list_here : (list inner x : List ℕ) → IsTlv 48 list inner → IsTlv 163 inner x → list_at x ≡ Ok list
unfolding list_at
list_here list inner x is outer =
    let read : only_at 163 (163 ∷ (outer.size ++ inner)) ≡ Ok inner = ap (only_at 163) (sym outer.text) ∙ only_here 163 inner x outer in
    ap list_at outer.text ∙ rw (read, only_here 48 list inner is) refl

other_tag : (tag : ℕ) (c x : List ℕ) → IsTlv 163 c x → (163 ≡ tag → ⊥) → NotFirst tag x
other_tag tag c x is differs = subst (λ (y : List ℕ). NotFirst tag y) (append-nil x) (other_first tag 163 c x [] is differs)

-- the fields of a TBSCertificate, before bytes that begin with none of these tags
pub tbs_sorted : (r : List ℕ) → NotFirst 160 r → NotFirst 129 r → NotFirst 130 r → Sorted tbs_fields r
tbs_sorted r v i s =
    let version : Differs 160 (must 2 at.Serial ∷ must 48 at.Algorithm ∷ must 48 at.Issuer ∷ must 48 at.Validity ∷ must 48 at.Subject ∷ from_key) =
    (λ q. absurd (omega (arith, q)), (λ q. absurd (omega (arith, q)), (λ q. absurd (omega (arith, q)), (λ q. absurd (omega (arith, q)), (λ q. absurd (omega (arith, q)), (λ q. absurd (omega (arith, q)), (λ q. absurd (omega (arith, q)), (λ q. absurd (omega (arith, q)), tt)))))))) in
    let last : Sorted from_key r = (λ e. not_true e, (λ e. ((λ q. absurd (omega (arith, q)), tt), i), (λ e. (tt, s), tt))) in
    (λ e. (version, v), (λ e. not_true e, (λ e. not_true e, (λ e. not_true e, (λ e. not_true e, (λ e. not_true e, last))))))

before_key_sorted : (r : List ℕ) → NotFirst 160 r → Sorted before_key r
before_key_sorted r v =
    let version : Differs 160 (must 2 at.Serial ∷ must 48 at.Algorithm ∷ must 48 at.Issuer ∷ must 48 at.Validity ∷ must 48 at.Subject ∷ []) =
    (λ q. absurd (omega (arith, q)), (λ q. absurd (omega (arith, q)), (λ q. absurd (omega (arith, q)), (λ q. absurd (omega (arith, q)), (λ q. absurd (omega (arith, q)), tt))))) in
    (λ e. (version, v), (λ e. not_true e, (λ e. not_true e, (λ e. not_true e, (λ e. not_true e, (λ e. not_true e, tt))))))

-- the fields before the extensions, and their field
pub head_here : (h c x : List ℕ) → AreFields tbs_fields h → IsTlv 163 c x → after_fields tbs_fields (h ++ x) ≡ Ok x
head_here h c x are is =
    fields_here tbs_fields h x are (tbs_sorted x (other_tag 160 c x is (λ q. absurd (omega (arith, q)))) (other_tag 129 c x is (λ q. absurd (omega (arith, q))))
    (other_tag 130 c x is (λ q. absurd (omega (arith, q)))))

-- .. or nothing
pub head_alone : (h : List ℕ) → AreFields tbs_fields h → after_fields tbs_fields (h ++ []) ≡ Ok []
head_alone h are = fields_here tbs_fields h [] are (tbs_sorted [] tt tt tt)

pub cuts_are_read : CutsAreRead
unfolding parts_cut_at
cuts_are_read identifier p b is =
    let from = p.cut ++ p.behind in
    let list = p.front ++ from in
    let others = is.front in
    let sole : sole_at identifier (length list) list ≡ Ok (from, p.value, p.behind) =
    ap (λ (y : List ℕ). sole_at identifier (length (y ++ from)) (y ++ from)) others.2
    ∙ sole_here identifier others.0 p.value p.cut p.behind (length (all_joined others.0 ++ from)) (omega arith) others.1 is.cut is.behind in
    rw (
      only_here 48 (p.head ++ is.field) b is.text,
      head_here p.head is.list is.field is.fields is.field_is,
      list_here list is.list is.field is.list_is is.field_is,
      sole,
      before_rest p.head is.field,
      before_rest p.front from,
      before_rest p.cut p.behind,
    ) refl

-- ---- certificates

pub tbs_here : (t b : List ℕ) → IsTbsOf t b → whole_tbs_at b ≡ Ok t
unfolding whole_tbs_at
tbs_here t b is =
    rw (
      only_here 48 (t ++ (is.algorithm ++ is.signature)) b is.text,
      expected_here 48 is.content t (is.algorithm ++ is.signature) is.tbs_is,
      expected_here 48 is.algorithm_content is.algorithm is.signature is.algorithm_is,
      only_here 3 is.signature_content is.signature is.signature_is,
      before_rest t (is.algorithm ++ is.signature),
    ) refl

pub key_here : (k b : List ℕ) → IsKeyOf k b → key_at b ≡ Ok k
unfolding key_at
key_here k b is =
    let rest = k ++ is.behind in
    let other : NotFirst 160 rest = other_first 160 48 is.content k is.behind is.key_is (λ q. absurd (omega (arith, q))) in
    rw (
      only_here 48 (is.before ++ rest) b is.text,
      fields_here before_key is.before rest is.before_are (before_key_sorted rest other),
      expected_here 48 is.content k is.behind is.key_is,
      before_rest k is.behind,
    ) refl

pub one_tbs : OneTbs
one_tbs s t b p q = one_ok {F = CutFault} s t (whole_tbs_at b) (tbs_here s b p) (tbs_here t b q)

pub one_key : OneKey
one_key j k b p q = one_ok {F = CutFault} j k (key_at b) (key_here j b p) (key_here k b q)
