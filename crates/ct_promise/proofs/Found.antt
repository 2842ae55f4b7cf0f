-- Anything that is read is in the grammar.
use Rattle.std.proofs.Common.{◌≡◌, ◌<◌, ◌≤◌, ◌-◌, ℕ, zero, suc, Bool, true, false, cond, List, [], ◌∷◌, ◌++◌, length}
use Rattle.std.proofs.Common.{take, Option, Result, Ok, Err, refl, sym, ap, subst, ◌∙◌, ◌⊎◌, inl, inr, append_assoc, arith}
use Rattle.std.specs.Prelude.{bytes_eq}
use Rattle.std.proofs.lemmas.List.{length-append}
use Rattle.std.proofs.lemmas.Slice.Eq.{bytes_eq-Decides}
use Rattle.std.proofs.Math.Seq.{take-append_seam}
use Rattle.ct_promise.specs.declared.der_fault.DerFault.{DerFault}
use Rattle.ct_promise.specs.Element.{IsTlv}
use Rattle.ct_promise.specs.DerReading.{◌>>=◌, expected_at, only_at, optional_at}
use Rattle.ct_promise.specs.DerLaws.{IsBytes}
use Rattle.ct_promise.proofs.Elements.{bind_ok}
use Rattle.ct_promise.proofs.Readings.{Whole, expected_found, only_found, optional_found, one_ok, some_bytes}
use Rattle.ct_promise.specs.declared.field.Place.{Place}
use Rattle.ct_promise.specs.declared.field.Place.TheVariants as at
use Rattle.ct_promise.specs.declared.fault.CutFault.{CutFault}
use Rattle.ct_promise.specs.declared.fault.CutFault.TheVariants.{NoExtension, SecondExtension}
use Rattle.ct_promise.specs.Tbs.{Field, may, IsFieldOf, AreFields, before_key, tbs_fields, IsExtensionWith, AreOthers, Parts, IsParted, IsTbsOf, IsKeyOf}
use Rattle.ct_promise.specs.Reading.{put_at, before, field_after, after_fields, extension_with_at, others_at, sole_at, list_at, parts_cut_at, whole_tbs_at, key_at}
use Rattle.ct_promise.specs.Laws.{ReadCutsAreThere}
use Rattle.ct_promise.proofs.Loops.{Read, others_step, sole_step}

put_ok : {X : Type 0} (p : Place) (r : Result X DerFault) (x : X) → put_at p r ≡ Ok x → r ≡ Ok x
put_ok p (Ok y) x e = cc
put_ok p (Err f) x e = absurd cc

-- the bytes before the rest
pub before_rest : (x r : List ℕ) → before (x ++ r) r ≡ x
before_rest x r =
    let size = length-append x r in
    let n : length (x ++ r) - length r ≡ length x = omega (arith, size) in
    ap (λ (k : ℕ). take k (x ++ r)) n ∙ take-append_seam x r

pub before_text : (b x r : List ℕ) → b ≡ x ++ r → before b r ≡ x
before_text b x r e = ap (λ (y : List ℕ). before y r) e ∙ before_rest x r

-- ---- fields

-- fields in front, and the bytes after them
pub record FieldsFound (fs : List Field) (b r : List ℕ) : Type 0 where
  pub x : List ℕ
  pub are : AreFields fs x
  pub text : b ≡ x ++ r
  pub rest : IsBytes r

-- a field in front, and the bytes after it
pub record FieldFound (f : Field) (b r : List ℕ) : Type 0 where
  pub x : List ℕ
  pub is : IsFieldOf f x
  pub text : b ≡ x ++ r
  pub rest : IsBytes r

may_be : (tag : ℕ) (place : Place) (x : List ℕ) → (x ≡ []) ⊎ ((c : List ℕ) × IsTlv tag c x) → IsFieldOf (may tag place) x
may_be tag place x (inl e) = inl (refl, e)
may_be tag place x (inr is) = inr is

field_found : (optional : Bool) (tag : ℕ) (place : Place) (b r : List ℕ) → IsBytes b
    → field_after (record { optional = optional; tag = tag; place = place }) b ≡ Ok r
    → FieldFound (record { optional = optional; tag = tag; place = place }) b r
unfolding field_after
field_found true tag place b r fits e =
    let a = bind_ok (put_at place (optional_at tag b)) (λ e. Ok e.1) r e in
    let f = optional_found tag b a.0 fits (put_ok place (optional_at tag b) a.0 a.1) in
    subst (λ (y : List ℕ). FieldFound (may tag place) b y) (one_ok a.0.1 r (Ok a.0.1) refl a.2)
    (record { x = f.x; is = may_be tag place f.x f.is; text = f.text; rest = f.rest })
field_found false tag place b r fits e =
    let a = bind_ok (put_at place (expected_at tag b)) (λ e. Ok e.1) r e in
    let f = expected_found tag b a.0 fits (put_ok place (expected_at tag b) a.0 a.1) in
    subst (λ (y : List ℕ). FieldFound (record { optional = false; tag = tag; place = place }) b y) (one_ok a.0.1 r (Ok a.0.1) refl a.2)
    (record { x = f.x; is = inr (a.0.0, f.is); text = f.text; rest = f.rest })

pub fields_found : (fs : List Field) (b r : List ℕ) → IsBytes b → after_fields fs b ≡ Ok r → FieldsFound fs b r
fields_found [] b r fits e =
    subst (λ (y : List ℕ). FieldsFound [] b y) (one_ok b r (Ok b) refl e) (record { x = []; are = refl; text = refl; rest = fits })
fields_found (f ∷ fs) b r fits e =
    let a = bind_ok (field_after f b) (λ r. after_fields fs r) r e in
    let one = field_found f.optional f.tag f.place b a.0 fits a.1 in
    let all = fields_found fs a.0 r one.rest a.2 in
    record {
      x = one.x ++ all.x;
      are = (one.x, all.x, one.is, all.are, refl);
      text = one.text ∙ ap (λ (y : List ℕ). one.x ++ y) all.text ∙ sym (append_assoc one.x all.x r);
      rest = all.rest;
    }

-- ---- extensions

-- an extension in front, and the bytes after it
pub record ExtensionFound (identifier value b r : List ℕ) : Type 0 where
  pub x : List ℕ
  pub is : IsExtensionWith identifier value x
  pub text : b ≡ x ++ r
  pub some : 0 < length x
  pub rest : IsBytes r

abbrev Two : Type 0
Two = List ℕ × List ℕ

abbrev Flag : Type 0
Flag = Option (List ℕ) × List ℕ

abbrev extension_2 : Two → Two → Flag → Result Read CutFault
extension_2 extension name critical = put_at at.Extensions (only_at 4 critical.1) >>= λ value. Ok (name.0, value, extension.1)

abbrev extension_1 : Two → Two → Result Read CutFault
extension_1 extension name = put_at at.Extensions (optional_at 1 name.1) >>= λ critical. extension_2 extension name critical

abbrev extension_0 : Two → Result Read CutFault
extension_0 extension = put_at at.Extensions (expected_at 6 extension.0) >>= λ name. extension_1 extension name

pub extension_found : (b : List ℕ) (v : Read) → IsBytes b → extension_with_at b ≡ Ok v → ExtensionFound v.0 v.1 b v.2
unfolding extension_with_at
extension_found b v fits e =
    let a = bind_ok (put_at at.Extensions (expected_at 48 b)) extension_0 v e in
    let c = bind_ok (put_at at.Extensions (expected_at 6 a.0.0)) (extension_1 a.0) v a.2 in
    let d = bind_ok (put_at at.Extensions (optional_at 1 c.0.1)) (extension_2 a.0 c.0) v c.2 in
    let w = bind_ok (put_at at.Extensions (only_at 4 d.0.1)) (λ value. Ok (c.0.0, value, a.0.1)) v d.2 in
    let extension = expected_found 48 b a.0 fits (put_ok at.Extensions (expected_at 48 b) a.0 a.1) in
    let name = expected_found 6 a.0.0 c.0 extension.inner (put_ok at.Extensions (expected_at 6 a.0.0) c.0 c.1) in
    let critical = optional_found 1 c.0.1 d.0 name.rest (put_ok at.Extensions (optional_at 1 c.0.1) d.0 d.1) in
    let value = only_found 4 d.0.1 w.0 critical.rest (put_ok at.Extensions (only_at 4 d.0.1) w.0 w.1) in
    let whole : a.0.0 ≡ name.x ++ (critical.x ++ d.0.1) = name.text ∙ ap (λ (y : List ℕ). name.x ++ y) critical.text in
    let inner : IsTlv 48 (name.x ++ (critical.x ++ d.0.1)) extension.x = subst (λ (y : List ℕ). IsTlv 48 y extension.x) whole extension.is in
    subst (λ (p : Read). ExtensionFound p.0 p.1 b p.2) (one_ok (c.0.0, w.0, a.0.1) v (Ok (c.0.0, w.0, a.0.1)) refl w.2)
    (record {
      x = extension.x;
      is = record {
        name = name.x;
        critical = critical.x;
        content = d.0.1;
        name_is = name.is;
        critical_is = may_be 1 at.Extensions critical.x critical.is;
        content_is = value.is;
        text = inner;
      };
      text = extension.text;
      some = some_bytes 48 a.0.0 extension.x extension.is;
      rest = extension.rest;
    })

-- ---- which extension it is

if_ok : {X : Type 0} (b : Bool) (p q : Result X CutFault) (y : X) → cond b p q ≡ Ok y → ((b ≡ true) × (p ≡ Ok y)) ⊎ ((b ≡ false) × (q ≡ Ok y))
if_ok true p q y e = inl (refl, e)
if_ok false p q y e = inr (refl, e)

not_failed : {X Y : Type 0} (u : CutFault) (y : X) (r : Result X CutFault) → r ≡ Err u → r ≡ Ok y → Y
not_failed u y r p q = absurd cc

not_both : (b : Bool) → b ≡ true → b ≡ false → ⊥
not_both b p q = absurd cc

pub other_name : (x y : List ℕ) → bytes_eq x y ≡ false → x ≡ y → ⊥
other_name x y e same = not_both (bytes_eq x y) ((bytes_eq-Decides x y).1 same) e

pub same_name : (x y : List ℕ) → bytes_eq x y ≡ true → x ≡ y
same_name x y e = (bytes_eq-Decides x y).0 e

pub others_found : (identifier : List ℕ) (n : ℕ) (b end : List ℕ) → length b ≤ n → IsBytes b → others_at identifier n b ≡ Ok end → AreOthers identifier b
unfolding others_at
others_found identifier zero [] end room fits e = ([], tt, refl)
others_found identifier zero (x ∷ b) end room fits e = absurd (omega (arith, room))
others_found identifier (suc n) [] end room fits e = ([], tt, refl)
others_found identifier (suc n) (x ∷ b) end room fits e =
    let a = bind_ok (extension_with_at (x ∷ b)) (others_step identifier n) end e in
    let f = extension_found (x ∷ b) a.0 fits a.1 in
    let size = ap length f.text ∙ length-append f.x a.0.2 in
    elim (if_ok (bytes_eq a.0.0 identifier) (Err SecondExtension) (others_at identifier n a.0.2) end a.2) [
      | inl p ↦ not_failed SecondExtension end (Err SecondExtension) refl p.1
      | inr p ↦ (let others = others_found identifier n a.0.2 end (omega (arith, size, f.some, room)) f.rest p.1 in
          (f.x ∷ others.0, ((a.0.0, a.0.1, other_name a.0.0 identifier p.0, f.is), others.1), f.text ∙ ap (λ (l : List ℕ). f.x ++ l) others.2))
    ]

-- the extension with the identifier: the extensions before it, the extension itself, its value, and the bytes after it
pub record SoleFound (identifier b from value behind : List ℕ) : Type 0 where
  pub front : List ℕ
  pub cut : List ℕ
  pub front_are : AreOthers identifier front
  pub cut_is : IsExtensionWith identifier value cut
  pub behind_are : AreOthers identifier behind
  pub text : b ≡ front ++ from
  pub from_text : from ≡ cut ++ behind

one_more : (identifier other value x b from v behind r : List ℕ) → (other ≡ identifier → ⊥) → IsExtensionWith other value x → b ≡ x ++ r
    → SoleFound identifier r from v behind → SoleFound identifier b from v behind
one_more identifier other value x b from v behind r differs is text s = record {
  front = x ++ s.front;
  cut = s.cut;
  front_are = (x ∷ s.front_are.0, ((other, value, differs, is), s.front_are.1), ap (λ (l : List ℕ). x ++ l) s.front_are.2);
  cut_is = s.cut_is;
  behind_are = s.behind_are;
  text = text ∙ ap (λ (l : List ℕ). x ++ l) s.text ∙ sym (append_assoc x s.front from);
  from_text = s.from_text;
}

sole_found : (identifier : List ℕ) (n : ℕ) (b : List ℕ) (v : Read) → length b ≤ n → IsBytes b → sole_at identifier n b ≡ Ok v
    → SoleFound identifier b v.0 v.1 v.2
unfolding sole_at
sole_found identifier zero b v room fits e = not_failed NoExtension v (Err NoExtension) refl e
sole_found identifier (suc n) [] v room fits e = not_failed NoExtension v (Err NoExtension) refl e
sole_found identifier (suc n) (x ∷ b) v room fits e =
    let a = bind_ok (extension_with_at (x ∷ b)) (sole_step identifier n (x ∷ b)) v e in
    let f = extension_found (x ∷ b) a.0 fits a.1 in
    let size = ap length f.text ∙ length-append f.x a.0.2 in
    elim (if_ok (bytes_eq a.0.0 identifier) (others_at identifier (length a.0.2) a.0.2 >>= λ none. Ok (x ∷ b, a.0.1, a.0.2)) (sole_at identifier n a.0.2) v a.2) [
      | inl p ↦ (let o = bind_ok (others_at identifier (length a.0.2) a.0.2) (λ none. Ok (x ∷ b, a.0.1, a.0.2)) v p.1 in
          let others = others_found identifier (length a.0.2) a.0.2 o.0 (omega arith) f.rest o.1 in
          subst (λ (p : Read). SoleFound identifier (x ∷ b) p.0 p.1 p.2) (one_ok (x ∷ b, a.0.1, a.0.2) v (Ok (x ∷ b, a.0.1, a.0.2)) refl o.2)
          (record {
            front = [];
            cut = f.x;
            front_are = ([], tt, refl);
            cut_is = subst (λ (i : List ℕ). IsExtensionWith i a.0.1 f.x) (same_name a.0.0 identifier p.0) f.is;
            behind_are = others;
            text = refl;
            from_text = f.text;
          }))
      | inr p ↦ one_more identifier a.0.0 a.0.1 f.x (x ∷ b) v.0 v.1 v.2 a.0.2 (other_name a.0.0 identifier p.0) f.is f.text
          (sole_found identifier n a.0.2 v (omega (arith, size, f.some, room)) f.rest p.1)
    ]

-- ---- TBSCertificates

-- the list of the extensions, which is not empty, in its field
pub record ListFound (b list : List ℕ) : Type 0 where
  pub inner : List ℕ
  pub inner_is : IsTlv 48 list inner
  pub is : IsTlv 163 inner b
  pub fits : IsBytes list

-- a list of extensions is in its field, if it has some bytes
list_found : (b list : List ℕ) → IsBytes b → 0 < length list → list_at b ≡ Ok list → ListFound b list
unfolding list_at
list_found [] list fits some e =
    let none : [] ≡ list = one_ok [] list (Ok []) refl e in
    let size = ap length none in
    absurd (omega (arith, size, some))
list_found (x ∷ b) list fits some e =
    let a = bind_ok (put_at at.Extensions (only_at 163 (x ∷ b))) (λ l. put_at at.Extensions (only_at 48 l)) list e in
    let outer = only_found 163 (x ∷ b) a.0 fits (put_ok at.Extensions (only_at 163 (x ∷ b)) a.0 a.1) in
    let inner = only_found 48 a.0 list outer.inner (put_ok at.Extensions (only_at 48 a.0) list a.2) in
    record { inner = a.0; inner_is = inner.is; is = outer.is; fits = inner.inner }

sole_some : (identifier : List ℕ) (list : List ℕ) (v : Read) → sole_at identifier (length list) list ≡ Ok v → 0 < length list
unfolding sole_at
sole_some identifier [] v e = not_failed NoExtension v (Err NoExtension) refl e
sole_some identifier (x ∷ b) v e = omega arith

abbrev parts_with : List ℕ → List ℕ → List ℕ → Read → Parts
parts_with fields rest list sole =
    record { head = before fields rest; front = before list sole.0; cut = before sole.0 sole.2; value = sole.1; behind = sole.2 }

abbrev cut_3 : List ℕ → List ℕ → List ℕ → List ℕ → Result Parts CutFault
cut_3 identifier fields rest list = sole_at identifier (length list) list >>= λ sole. Ok (parts_with fields rest list sole)

abbrev cut_2 : List ℕ → List ℕ → List ℕ → Result Parts CutFault
cut_2 identifier fields rest = list_at rest >>= cut_3 identifier fields rest

abbrev cut_1 : List ℕ → List ℕ → Result Parts CutFault
cut_1 identifier fields = after_fields tbs_fields fields >>= cut_2 identifier fields

-- the parts as they were found
parted : (identifier fields rest list b : List ℕ) (sole : Read) → Whole 48 b fields → (h : FieldsFound tbs_fields fields rest) → (l : ListFound rest list)
    → (s : SoleFound identifier list sole.0 sole.1 sole.2)
    → IsParted identifier (record { head = h.x; front = s.front; cut = s.cut; value = sole.1; behind = sole.2 }) b
parted identifier fields rest list b sole whole h l s = record {
  list = l.inner;
  field = rest;
  fields = h.are;
  front = s.front_are;
  cut = s.cut_is;
  behind = s.behind_are;
  list_is = subst (λ (y : List ℕ). IsTlv 48 y l.inner) (s.text ∙ ap (λ (y : List ℕ). s.front ++ y) s.from_text) l.inner_is;
  field_is = l.is;
  text = subst (λ (y : List ℕ). IsTlv 48 y b) h.text whole.is;
}

pub read_cuts_are_there : ReadCutsAreThere
unfolding parts_cut_at
read_cuts_are_there identifier p b fits e =
    let a = bind_ok (put_at at.Tbs (only_at 48 b)) (cut_1 identifier) p e in
    let c = bind_ok (after_fields tbs_fields a.0) (cut_2 identifier a.0) p a.2 in
    let d = bind_ok (list_at c.0) (cut_3 identifier a.0 c.0) p c.2 in
    let s = bind_ok (sole_at identifier (length d.0) d.0) (λ sole. Ok (parts_with a.0 c.0 d.0 sole)) p d.2 in
    let whole = only_found 48 b a.0 fits (put_ok at.Tbs (only_at 48 b) a.0 a.1) in
    let h = fields_found tbs_fields a.0 c.0 whole.inner c.1 in
    let l = list_found c.0 d.0 h.rest (sole_some identifier d.0 s.0 s.1) d.1 in
    let sole = sole_found identifier (length d.0) d.0 s.0 (omega arith) l.fits s.1 in
    let head : h.x ≡ before a.0 c.0 = sym (before_text a.0 h.x c.0 h.text) in
    let front : sole.front ≡ before d.0 s.0.0 = sym (before_text d.0 sole.front s.0.0 sole.text) in
    let cut : sole.cut ≡ before s.0.0 s.0.2 = sym (before_text s.0.0 sole.cut s.0.2 sole.from_text) in
    let is = parted identifier a.0 c.0 d.0 b s.0 whole h l sole in
    let is_1 = subst (λ (x : List ℕ). IsParted identifier (record { head = x; front = sole.front; cut = sole.cut; value = s.0.1; behind = s.0.2 }) b) head is in
    let is_2 = subst (λ (x : List ℕ). IsParted identifier (record { head = before a.0 c.0; front = x; cut = sole.cut; value = s.0.1; behind = s.0.2 }) b) front is_1 in
    let is_3 = subst (λ (x : List ℕ). IsParted identifier (record { head = before a.0 c.0; front = before d.0 s.0.0; cut = x; value = s.0.1; behind = s.0.2 }) b) cut is_2 in
    subst (λ (q : Parts). IsParted identifier q b) (one_ok (parts_with a.0 c.0 d.0 s.0) p (Ok (parts_with a.0 c.0 d.0 s.0)) refl s.2) is_3

-- ---- certificates

abbrev tbs_3 : List ℕ → Two → Two → Result (List ℕ) CutFault
tbs_3 fields tbs algorithm = put_at at.Signature (only_at 3 algorithm.1) >>= λ signature. Ok (before fields tbs.1)

abbrev tbs_2 : List ℕ → Two → Result (List ℕ) CutFault
tbs_2 fields tbs = put_at at.OuterAlgorithm (expected_at 48 tbs.1) >>= tbs_3 fields tbs

abbrev tbs_1 : List ℕ → Result (List ℕ) CutFault
tbs_1 fields = put_at at.Tbs (expected_at 48 fields) >>= tbs_2 fields

pub tbs_found : (t b : List ℕ) → IsBytes b → whole_tbs_at b ≡ Ok t → IsTbsOf t b
unfolding whole_tbs_at
tbs_found t b fits e =
    let a = bind_ok (put_at at.Certificate (only_at 48 b)) tbs_1 t e in
    let c = bind_ok (put_at at.Tbs (expected_at 48 a.0)) (tbs_2 a.0) t a.2 in
    let d = bind_ok (put_at at.OuterAlgorithm (expected_at 48 c.0.1)) (tbs_3 a.0 c.0) t c.2 in
    let s = bind_ok (put_at at.Signature (only_at 3 d.0.1)) (λ signature. Ok (before a.0 c.0.1)) t d.2 in
    let whole = only_found 48 b a.0 fits (put_ok at.Certificate (only_at 48 b) a.0 a.1) in
    let tbs = expected_found 48 a.0 c.0 whole.inner (put_ok at.Tbs (expected_at 48 a.0) c.0 c.1) in
    let algorithm = expected_found 48 c.0.1 d.0 tbs.rest (put_ok at.OuterAlgorithm (expected_at 48 c.0.1) d.0 d.1) in
    let signature = only_found 3 d.0.1 s.0 algorithm.rest (put_ok at.Signature (only_at 3 d.0.1) s.0 s.1) in
    let same : tbs.x ≡ t = sym (before_text a.0 tbs.x c.0.1 tbs.text) ∙ one_ok (before a.0 c.0.1) t (Ok (before a.0 c.0.1)) refl s.2 in
    let text : a.0 ≡ tbs.x ++ (algorithm.x ++ d.0.1) = tbs.text ∙ ap (λ (y : List ℕ). tbs.x ++ y) algorithm.text in
    subst (λ (x : List ℕ). IsTbsOf x b) same (record {
      content = c.0.0;
      algorithm = algorithm.x;
      algorithm_content = d.0.0;
      signature = d.0.1;
      signature_content = s.0;
      tbs_is = tbs.is;
      algorithm_is = algorithm.is;
      signature_is = signature.is;
      text = subst (λ (y : List ℕ). IsTlv 48 y b) text whole.is;
    })

abbrev key_2 : List ℕ → Result (List ℕ) CutFault
key_2 rest = put_at at.Key (expected_at 48 rest) >>= λ key. Ok (before rest key.1)

abbrev key_1 : List ℕ → Result (List ℕ) CutFault
key_1 fields = after_fields before_key fields >>= key_2

pub key_found : (k b : List ℕ) → IsBytes b → key_at b ≡ Ok k → IsKeyOf k b
unfolding key_at
key_found k b fits e =
    let a = bind_ok (put_at at.Tbs (only_at 48 b)) key_1 k e in
    let c = bind_ok (after_fields before_key a.0) key_2 k a.2 in
    let d = bind_ok (put_at at.Key (expected_at 48 c.0)) (λ key. Ok (before c.0 key.1)) k c.2 in
    let whole = only_found 48 b a.0 fits (put_ok at.Tbs (only_at 48 b) a.0 a.1) in
    let h = fields_found before_key a.0 c.0 whole.inner c.1 in
    let key = expected_found 48 c.0 d.0 h.rest (put_ok at.Key (expected_at 48 c.0) d.0 d.1) in
    let same : key.x ≡ k = sym (before_text c.0 key.x d.0.1 key.text) ∙ one_ok (before c.0 d.0.1) k (Ok (before c.0 d.0.1)) refl d.2 in
    let text : a.0 ≡ h.x ++ (key.x ++ d.0.1) = h.text ∙ ap (λ (y : List ℕ). h.x ++ y) key.text in
    subst (λ (x : List ℕ). IsKeyOf x b) same (record {
      before = h.x;
      content = d.0.0;
      behind = d.0.1;
      before_are = h.are;
      key_is = key.is;
      text = subst (λ (y : List ℕ). IsTlv 48 y b) text whole.is;
    })
