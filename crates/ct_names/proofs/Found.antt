-- Anything that is read is in the grammar.
use Rattle.std.proofs.Common.{◌≡◌, ◌<◌, ◌≤◌, ℕ, zero, suc, Bool, true, false, cond, eqb, List, [], ◌∷◌, ◌++◌, length, Option, Result, Ok, Err, refl, sym, ap, subst, ◌∙◌, inl, inr, arith}
use Rattle.std.proofs.lemmas.Bool.{eqb-true}
use Rattle.std.proofs.lemmas.List.{length-append}
use Rattle.ct_promise.specs.declared.der_fault.DerFault.{DerFault}
use Rattle.ct_promise.specs.declared.der_fault.DerFault.TheVariants.{OtherTag, Trailing}
use Rattle.ct_promise.specs.Element.{IsTlv}
use Rattle.ct_promise.specs.DerReading.{◌>>=◌, element_at, expected_at, only_at, optional_at}
use Rattle.ct_promise.specs.DerLaws.{IsBytes}
use Rattle.ct_promise.proofs.Elements.{bind_ok}
use Rattle.ct_promise.proofs.Readings.{Front, element_found, expected_found, whole_of, only_found, optional_found, one_ok, some_bytes}
use Rattle.ct_promise.specs.declared.field.Place.{Place}
use Rattle.ct_promise.specs.declared.field.Place.TheVariants as at
use Rattle.ct_promise.specs.declared.field.Unread.{Unread}
use Rattle.ct_names.specs.Names.{Named, is_alt, is_bad_alt, is_bad_common, alt_of, common_of}
use Rattle.ct_names.specs.Reading.{placed, each, all_of, alt_at, attribute_at, rdn_at, extension_at, extensions_at, front_at, behind_at, parts_at, tbs_at, tbs_names, certificate_names, bare_names}
use Rattle.ct_names.specs.Certificate.{Many, IsOptional, IsField, IsAltName, IsAttribute, IsRdn, IsValue, IsExtension, AreExtensions, IsTbs, BareNamesOf}
use Rattle.ct_names.specs.Laws.{ReadCertificatesAreThere}
use Rattle.ct_names.proofs.Loops.{Item}

placed_ok : {X : Type 0} (p : Place) (r : Result X DerFault) (x : X) → placed p r ≡ Ok x → r ≡ Ok x
placed_ok p (Ok y) x e = cc
placed_ok p (Err f) x e = absurd cc

-- ---- items

-- an item in front, with its names
pub record ItemFound (Is : List Named → List ℕ → Type 0) (ns : List Named) (b r : List ℕ) : Type 0 where
  pub x : List ℕ
  pub is : Is ns x
  pub text : b ≡ x ++ r
  pub some : 0 < length x
  pub rest : IsBytes r

each_found : (item : Item) (Is : List Named → List ℕ → Type 0)
    → ((b : List ℕ) (v : List Named × List ℕ) → IsBytes b → item b ≡ Ok v → ItemFound Is v.0 b v.1) → (n : ℕ) (b : List ℕ) (ns : List Named)
    → length b ≤ n → IsBytes b → each item n b ≡ Ok ns → Many Is ns b
unfolding each
each_found item Is found zero [] ns room fits e = ([], tt, sym (one_ok [] ns (Ok []) refl e), refl)
each_found item Is found zero (x ∷ b) ns room fits e = absurd (omega (arith, room))
each_found item Is found (suc n) [] ns room fits e = ([], tt, sym (one_ok [] ns (Ok []) refl e), refl)
each_found item Is found (suc n) (x ∷ b) ns room fits e =
    let a = bind_ok (item (x ∷ b)) (λ r. each item n r.1 >>= λ ns. Ok (r.0 ++ ns)) ns e in
    let c = bind_ok (each item n a.0.1) (λ ns. Ok (a.0.0 ++ ns)) ns a.2 in
    let f = found (x ∷ b) a.0 fits a.1 in
    let size = ap length f.text ∙ length-append f.x a.0.1 in
    let many = each_found item Is found n a.0.1 c.0 (omega (arith, size, f.some, room)) f.rest c.1 in (
      (a.0.0, f.x) ∷ many.0,
      (f.is, many.1),
      sym (one_ok (a.0.0 ++ c.0) ns (Ok (a.0.0 ++ c.0)) refl c.2) ∙ ap (λ (l : List Named). a.0.0 ++ l) many.2,
      f.text ∙ ap (λ (l : List ℕ). f.x ++ l) many.3,
    )

refused : {A : Type 0} (b : Bool) (u : Unread) (x y : A) → cond b (Err u) (Ok x) ≡ Ok y → (b ≡ false) × (x ≡ y)
refused true u x y e = absurd cc
refused false u x y e = (refl, cc)

ended : {A : Type 0} (b : Bool) (u : Unread) (r : Result A Unread) (y : A) → cond b r (Err u) ≡ Ok y → (b ≡ true) × (r ≡ Ok y)
ended true u r y e = (refl, e)
ended false u r y e = absurd cc

abbrev Names : Type 0
Names = List Named × List ℕ

abbrev fault_in : Place → DerFault → Unread
fault_in p f = record { place = p; fault = f }

alt_found : (b : List ℕ) (v : Names) → IsBytes b → alt_at b ≡ Ok v → ItemFound IsAltName v.0 b v.1
unfolding alt_at
alt_found b v fits e =
    let a = bind_ok (placed at.AltNames (element_at b)) (λ e. cond (is_bad_alt e.0) (Err (fault_in at.AltNames OtherTag)) (Ok (alt_of e.0 e.1, e.2))) v e in
    let g = refused (is_bad_alt a.0.0) (fault_in at.AltNames OtherTag) (alt_of a.0.0 a.0.1, a.0.2) v a.2 in
    let f = element_found b a.0.1 a.0.2 a.0.0 fits (placed_ok at.AltNames (element_at b) a.0 a.1) in
    subst (λ (p : Names). ItemFound IsAltName p.0 b p.1) g.1
    (record { x = f.x; is = (a.0.0, a.0.1, f.is, g.0, refl); text = f.text; some = some_bytes a.0.0 a.0.1 f.x f.is; rest = f.rest })

abbrev Two : Type 0
Two = List ℕ × List ℕ

abbrev Three : Type 0
Three = ℕ × List ℕ × List ℕ

abbrev value_2 : Two → Two → Three → Result Names Unread
value_2 pair oid value = cond (eqb (length value.2) 0)
    (cond (is_bad_common oid.0 value.0) (Err (fault_in at.Subject OtherTag)) (Ok (common_of oid.0 value.0 value.1, pair.1)))
    (Err (fault_in at.Subject Trailing))

abbrev value_1 : Two → Two → Result Names Unread
value_1 pair oid = placed at.Subject (element_at oid.1) >>= λ value. value_2 pair oid value

abbrev value_0 : Two → Result Names Unread
value_0 pair = placed at.Subject (expected_at 6 pair.0) >>= λ oid. value_1 pair oid

attribute_found : (b : List ℕ) (v : Names) → IsBytes b → attribute_at b ≡ Ok v → ItemFound IsAttribute v.0 b v.1
unfolding attribute_at
attribute_found b v fits e =
    let a = bind_ok (placed at.Subject (expected_at 48 b)) value_0 v e in
    let c = bind_ok (placed at.Subject (expected_at 6 a.0.0)) (value_1 a.0) v a.2 in
    let d = bind_ok (placed at.Subject (element_at c.0.1)) (value_2 a.0 c.0) v c.2 in
    let end = ended (eqb (length d.0.2) 0) (fault_in at.Subject Trailing)
    (cond (is_bad_common c.0.0 d.0.0) (Err (fault_in at.Subject OtherTag)) (Ok (common_of c.0.0 d.0.0 d.0.1, a.0.1))) v d.2 in
    let g = refused (is_bad_common c.0.0 d.0.0) (fault_in at.Subject OtherTag) (common_of c.0.0 d.0.0 d.0.1, a.0.1) v end.1 in
    let pair = expected_found 48 b a.0 fits (placed_ok at.Subject (expected_at 48 b) a.0 a.1) in
    let oid = expected_found 6 a.0.0 c.0 pair.inner (placed_ok at.Subject (expected_at 6 a.0.0) c.0 c.1) in
    let value = whole_of d.0.0 c.0.1 d.0.1 d.0.2 (element_found c.0.1 d.0.1 d.0.2 d.0.0 oid.rest (placed_ok at.Subject (element_at c.0.1) d.0 d.1))
    (eqb-true (length d.0.2) 0 end.0) in
    let inner : IsTlv 48 (oid.x ++ c.0.1) pair.x = subst (λ (y : List ℕ). IsTlv 48 y pair.x) oid.text pair.is in
    subst (λ (p : Names). ItemFound IsAttribute p.0 b p.1) g.1
    (record {
      x = pair.x;
      is = (d.0.0, c.0.0, d.0.1, oid.x, c.0.1, oid.is, value.is, inner, g.0, refl);
      text = pair.text;
      some = some_bytes 48 a.0.0 pair.x pair.is;
      rest = pair.rest;
    })

many_found : (item : Item) (Is : List Named → List ℕ → Type 0)
    → ((b : List ℕ) (v : Names) → IsBytes b → item b ≡ Ok v → ItemFound Is v.0 b v.1) → (b : List ℕ) (ns : List Named) → IsBytes b
    → all_of item b ≡ Ok ns → Many Is ns b
many_found item Is found b ns fits e = each_found item Is found (length b) b ns (omega arith) fits e

rdn_found : (b : List ℕ) (v : Names) → IsBytes b → rdn_at b ≡ Ok v → ItemFound IsRdn v.0 b v.1
unfolding rdn_at
rdn_found b v fits e =
    let a = bind_ok (placed at.Subject (expected_at 49 b)) (λ set. all_of attribute_at set.0 >>= λ names. Ok (names, set.1)) v e in
    let c = bind_ok (all_of attribute_at a.0.0) (λ names. Ok (names, a.0.1)) v a.2 in
    let set = expected_found 49 b a.0 fits (placed_ok at.Subject (expected_at 49 b) a.0 a.1) in
    let many = many_found attribute_at IsAttribute attribute_found a.0.0 c.0 set.inner c.1 in
    subst (λ (p : Names). ItemFound IsRdn p.0 b p.1) (one_ok (c.0, a.0.1) v (Ok (c.0, a.0.1)) refl c.2)
    (record { x = set.x; is = (a.0.0, many, set.is); text = set.text; some = some_bytes 49 a.0.0 set.x set.is; rest = set.rest })

abbrev value_at : Bool → List ℕ → List ℕ → Result Names Unread
value_at b value r = cond b (placed at.AltNames (only_at 48 value) >>= λ alts. all_of alt_at alts >>= λ names. Ok (names, r)) (Ok ([], r))

-- the names in the value of an extension, and the bytes after the extension
pub record ValueFound (b : Bool) (ns : List Named) (value r s : List ℕ) : Type 0 where
  pub is : IsValue b ns value
  pub same : r ≡ s

value_found : (b : Bool) (value r : List ℕ) (v : Names) → IsBytes value → value_at b value r ≡ Ok v → ValueFound b v.0 value r v.1
value_found true value r v fits e =
    let a = bind_ok (placed at.AltNames (only_at 48 value)) (λ alts. all_of alt_at alts >>= λ names. Ok (names, r)) v e in
    let c = bind_ok (all_of alt_at a.0) (λ names. Ok (names, r)) v a.2 in
    let list = only_found 48 value a.0 fits (placed_ok at.AltNames (only_at 48 value) a.0 a.1) in
    let many = many_found alt_at IsAltName alt_found a.0 c.0 list.inner c.1 in
    subst (λ (p : Names). ValueFound true p.0 value r p.1) (one_ok (c.0, r) v (Ok (c.0, r)) refl c.2) (record { is = (a.0, list.is, many); same = refl })
value_found false value r v fits e =
    subst (λ (p : Names). ValueFound false p.0 value r p.1) (one_ok ([], r) v (Ok ([], r)) refl e) (record { is = refl; same = refl })

abbrev Flag : Type 0
Flag = Option (List ℕ) × List ℕ

abbrev extension_2 : Two → Two → Flag → Result Names Unread
extension_2 extension oid critical = placed at.Extensions (only_at 4 critical.1) >>= λ value. value_at (is_alt oid.0) value extension.1

abbrev extension_1 : Two → Two → Result Names Unread
extension_1 extension oid = placed at.Extensions (optional_at 1 oid.1) >>= λ critical. extension_2 extension oid critical

abbrev extension_0 : Two → Result Names Unread
extension_0 extension = placed at.Extensions (expected_at 6 extension.0) >>= λ oid. extension_1 extension oid

extension_found : (b : List ℕ) (v : Names) → IsBytes b → extension_at b ≡ Ok v → ItemFound IsExtension v.0 b v.1
unfolding extension_at
extension_found b v fits e =
    let a = bind_ok (placed at.Extensions (expected_at 48 b)) extension_0 v e in
    let c = bind_ok (placed at.Extensions (expected_at 6 a.0.0)) (extension_1 a.0) v a.2 in
    let d = bind_ok (placed at.Extensions (optional_at 1 c.0.1)) (extension_2 a.0 c.0) v c.2 in
    let w = bind_ok (placed at.Extensions (only_at 4 d.0.1)) (λ value. value_at (is_alt c.0.0) value a.0.1) v d.2 in
    let extension = expected_found 48 b a.0 fits (placed_ok at.Extensions (expected_at 48 b) a.0 a.1) in
    let oid = expected_found 6 a.0.0 c.0 extension.inner (placed_ok at.Extensions (expected_at 6 a.0.0) c.0 c.1) in
    let critical = optional_found 1 c.0.1 d.0 oid.rest (placed_ok at.Extensions (optional_at 1 c.0.1) d.0 d.1) in
    let value = only_found 4 d.0.1 w.0 critical.rest (placed_ok at.Extensions (only_at 4 d.0.1) w.0 w.1) in
    let names = value_found (is_alt c.0.0) w.0 a.0.1 v value.inner w.2 in
    let whole : a.0.0 ≡ oid.x ++ (critical.x ++ d.0.1) = oid.text ∙ ap (λ (y : List ℕ). oid.x ++ y) critical.text in
    let inner : IsTlv 48 (oid.x ++ (critical.x ++ d.0.1)) extension.x = subst (λ (y : List ℕ). IsTlv 48 y extension.x) whole extension.is in
    record {
      x = extension.x;
      is = (c.0.0, w.0, oid.x, critical.x, d.0.1, oid.is, critical.is, value.is, inner, names.is);
      text = extension.text ∙ ap (λ (y : List ℕ). extension.x ++ y) names.same;
      some = some_bytes 48 a.0.0 extension.x extension.is;
      rest = subst IsBytes names.same extension.rest;
    }

-- ---- certificates

list_found : (b list : List ℕ) (ns : List Named) → IsBytes b → extensions_at b ≡ Ok list → all_of extension_at list ≡ Ok ns → AreExtensions ns b
unfolding extensions_at each
list_found [] list ns fits e f =
    let none : [] ≡ list = one_ok [] list (Ok []) refl e in
    inl (refl, sym (one_ok [] ns (Ok []) refl (ap (all_of extension_at) none ∙ f)))
list_found (x ∷ b) list ns fits e f =
    let a = bind_ok (placed at.Extensions (only_at 163 (x ∷ b))) (λ e. placed at.Extensions (only_at 48 e)) list e in
    let outer = only_found 163 (x ∷ b) a.0 fits (placed_ok at.Extensions (only_at 163 (x ∷ b)) a.0 a.1) in
    let inner = only_found 48 a.0 list outer.inner (placed_ok at.Extensions (only_at 48 a.0) list a.2) in
    let many = many_found extension_at IsExtension extension_found list ns inner.inner f in
    inr (list, a.0, many, inner.is, outer.is)

-- the fields before the subject
pub record Head (b r : List ℕ) : Type 0 where
  pub version : List ℕ
  pub serial : List ℕ
  pub algorithm : List ℕ
  pub issuer : List ℕ
  pub validity : List ℕ
  pub version_is : IsOptional 160 version
  pub serial_is : IsField 2 serial
  pub algorithm_is : IsField 48 algorithm
  pub issuer_is : IsField 48 issuer
  pub validity_is : IsField 48 validity
  pub text : b ≡ version ++ (serial ++ (algorithm ++ (issuer ++ (validity ++ r))))
  pub rest : IsBytes r

abbrev front_4 : Two → Result (List ℕ) Unread
front_4 issuer = placed at.Validity (expected_at 48 issuer.1) >>= λ v. Ok v.1

abbrev front_3 : Two → Result (List ℕ) Unread
front_3 algorithm = placed at.Issuer (expected_at 48 algorithm.1) >>= front_4

abbrev front_2 : Two → Result (List ℕ) Unread
front_2 serial = placed at.Algorithm (expected_at 48 serial.1) >>= front_3

abbrev front_1 : Flag → Result (List ℕ) Unread
front_1 version = placed at.Serial (expected_at 2 version.1) >>= front_2

head_found : (b r : List ℕ) → IsBytes b → front_at b ≡ Ok r → Head b r
unfolding front_at
head_found b r fits e =
    let a0 = bind_ok (placed at.Version (optional_at 160 b)) front_1 r e in
    let a1 = bind_ok (placed at.Serial (expected_at 2 a0.0.1)) front_2 r a0.2 in
    let a2 = bind_ok (placed at.Algorithm (expected_at 48 a1.0.1)) front_3 r a1.2 in
    let a3 = bind_ok (placed at.Issuer (expected_at 48 a2.0.1)) front_4 r a2.2 in
    let a4 = bind_ok (placed at.Validity (expected_at 48 a3.0.1)) (λ v. Ok v.1) r a3.2 in
    let f0 = optional_found 160 b a0.0 fits (placed_ok at.Version (optional_at 160 b) a0.0 a0.1) in
    let f1 = expected_found 2 a0.0.1 a1.0 f0.rest (placed_ok at.Serial (expected_at 2 a0.0.1) a1.0 a1.1) in
    let f2 = expected_found 48 a1.0.1 a2.0 f1.rest (placed_ok at.Algorithm (expected_at 48 a1.0.1) a2.0 a2.1) in
    let f3 = expected_found 48 a2.0.1 a3.0 f2.rest (placed_ok at.Issuer (expected_at 48 a2.0.1) a3.0 a3.1) in
    let f4 = expected_found 48 a3.0.1 a4.0 f3.rest (placed_ok at.Validity (expected_at 48 a3.0.1) a4.0 a4.1) in
    let text : b ≡ f0.x ++ (f1.x ++ (f2.x ++ (f3.x ++ (f4.x ++ a4.0.1)))) =
    f0.text ∙ ap (λ (y : List ℕ). f0.x ++ y) (f1.text ∙ ap (λ (y : List ℕ). f1.x ++ y) (f2.text ∙ ap (λ (y : List ℕ). f2.x ++ y) (f3.text
    ∙ ap (λ (y : List ℕ). f3.x ++ y) f4.text))) in
    subst (λ (y : List ℕ). Head b y) (one_ok a4.0.1 r (Ok a4.0.1) refl a4.2) (record {
      version = f0.x;
      serial = f1.x;
      algorithm = f2.x;
      issuer = f3.x;
      validity = f4.x;
      version_is = f0.is;
      serial_is = (a1.0.0, f1.is);
      algorithm_is = (a2.0.0, f2.is);
      issuer_is = (a3.0.0, f3.is);
      validity_is = (a4.0.0, f4.is);
      text = text;
      rest = f4.rest;
    })

-- the fields after the subject
pub record Tail (b list : List ℕ) : Type 0 where
  pub key : List ℕ
  pub issuer_id : List ℕ
  pub subject_id : List ℕ
  pub extensions : List ℕ
  pub key_is : IsField 48 key
  pub issuer_id_is : IsOptional 129 issuer_id
  pub subject_id_is : IsOptional 130 subject_id
  pub text : b ≡ key ++ (issuer_id ++ (subject_id ++ extensions))
  pub rest : IsBytes extensions
  pub read : extensions_at extensions ≡ Ok list

abbrev behind_2 : Flag → Result (List ℕ) Unread
behind_2 issuer = placed at.SubjectId (optional_at 130 issuer.1) >>= λ subject. extensions_at subject.1

abbrev behind_1 : Two → Result (List ℕ) Unread
behind_1 key = placed at.IssuerId (optional_at 129 key.1) >>= behind_2

tail_found : (b list : List ℕ) → IsBytes b → behind_at b ≡ Ok list → Tail b list
unfolding behind_at
tail_found b list fits e =
    let a0 = bind_ok (placed at.Key (expected_at 48 b)) behind_1 list e in
    let a1 = bind_ok (placed at.IssuerId (optional_at 129 a0.0.1)) behind_2 list a0.2 in
    let a2 = bind_ok (placed at.SubjectId (optional_at 130 a1.0.1)) (λ subject. extensions_at subject.1) list a1.2 in
    let f0 = expected_found 48 b a0.0 fits (placed_ok at.Key (expected_at 48 b) a0.0 a0.1) in
    let f1 = optional_found 129 a0.0.1 a1.0 f0.rest (placed_ok at.IssuerId (optional_at 129 a0.0.1) a1.0 a1.1) in
    let f2 = optional_found 130 a1.0.1 a2.0 f1.rest (placed_ok at.SubjectId (optional_at 130 a1.0.1) a2.0 a2.1) in
    record {
      key = f0.x;
      issuer_id = f1.x;
      subject_id = f2.x;
      extensions = a2.0.1;
      key_is = (a0.0.0, f0.is);
      issuer_id_is = f1.is;
      subject_id_is = f2.is;
      text = f0.text ∙ ap (λ (y : List ℕ). f0.x ++ y) (f1.text ∙ ap (λ (y : List ℕ). f1.x ++ y) f2.text);
      rest = f2.rest;
      read = a2.2;
    }

-- the parts of a TBSCertificate
pub record Parts (b rdns list : List ℕ) : Type 0 where
  pub from_subject : List ℕ
  pub from_key : List ℕ
  pub head : Head b from_subject
  pub subject : Front 48 from_subject rdns from_key
  pub tail : Tail from_key list

abbrev parts_2 : Two → Result Two Unread
parts_2 subject = behind_at subject.1 >>= λ extensions. Ok (subject.0, extensions)

abbrev parts_1 : List ℕ → Result Two Unread
parts_1 rest = placed at.Subject (expected_at 48 rest) >>= parts_2

parts_found : (b : List ℕ) (v : Two) → IsBytes b → parts_at b ≡ Ok v → Parts b v.0 v.1
unfolding parts_at
parts_found b v fits e =
    let a0 = bind_ok (front_at b) parts_1 v e in
    let a1 = bind_ok (placed at.Subject (expected_at 48 a0.0)) parts_2 v a0.2 in
    let a2 = bind_ok (behind_at a1.0.1) (λ extensions. Ok (a1.0.0, extensions)) v a1.2 in
    let head = head_found b a0.0 fits a0.1 in
    let subject = expected_found 48 a0.0 a1.0 head.rest (placed_ok at.Subject (expected_at 48 a0.0) a1.0 a1.1) in
    let tail = tail_found a1.0.1 a2.0 subject.rest a2.1 in
    subst (λ (p : Two). Parts b p.0 p.1) (one_ok (a1.0.0, a2.0) v (Ok (a1.0.0, a2.0)) refl a2.2)
    (record { from_subject = a0.0; from_key = a1.0.1; head = head; subject = subject; tail = tail })

abbrev names_2 : Two → List Named → Result (List Named) Unread
names_2 parts common = all_of extension_at parts.1 >>= λ alts. Ok (common ++ alts)

abbrev names_1 : Two → Result (List Named) Unread
names_1 parts = all_of rdn_at parts.0 >>= names_2 parts

tbs_found : (b : List ℕ) (ns : List Named) → IsBytes b → tbs_names b ≡ Ok ns → IsTbs ns b
unfolding tbs_names
tbs_found b ns fits e =
    let a0 = bind_ok (parts_at b) names_1 ns e in
    let a1 = bind_ok (all_of rdn_at a0.0.0) (names_2 a0.0) ns a0.2 in
    let a2 = bind_ok (all_of extension_at a0.0.1) (λ alts. Ok (a1.0 ++ alts)) ns a1.2 in
    let p = parts_found b a0.0 fits a0.1 in
    let h = p.head in
    let t = p.tail in
    let many = many_found rdn_at IsRdn rdn_found a0.0.0 a1.0 p.subject.inner a1.1 in
    let list = list_found t.extensions a0.0.1 a2.0 t.rest t.read a2.1 in
    record {
      common = a1.0;
      alts = a2.0;
      version = h.version;
      serial = h.serial;
      algorithm = h.algorithm;
      issuer = h.issuer;
      validity = h.validity;
      subject = p.subject.x;
      rdns = a0.0.0;
      key = t.key;
      issuer_id = t.issuer_id;
      subject_id = t.subject_id;
      extensions = t.extensions;
      version_is = h.version_is;
      serial_is = h.serial_is;
      algorithm_is = h.algorithm_is;
      issuer_is = h.issuer_is;
      validity_is = h.validity_is;
      subject_is = p.subject.is;
      rdns_are = many;
      key_is = t.key_is;
      issuer_id_is = t.issuer_id_is;
      subject_id_is = t.subject_id_is;
      extensions_are = list;
      names = sym (one_ok (a1.0 ++ a2.0) ns (Ok (a1.0 ++ a2.0)) refl a2.2);
      text = h.text ∙ ap (λ (y : List ℕ). h.version ++ (h.serial ++ (h.algorithm ++ (h.issuer ++ (h.validity ++ y)))))
          (p.subject.text ∙ ap (λ (y : List ℕ). p.subject.x ++ y) t.text);
    }

abbrev tbs_3 : Two → Two → Result (List ℕ) Unread
tbs_3 tbs algorithm = placed at.Signature (only_at 3 algorithm.1) >>= λ signature. Ok tbs.0

abbrev tbs_2 : Two → Result (List ℕ) Unread
tbs_2 tbs = placed at.OuterAlgorithm (expected_at 48 tbs.1) >>= tbs_3 tbs

abbrev tbs_1 : List ℕ → Result (List ℕ) Unread
tbs_1 fields = placed at.Tbs (expected_at 48 fields) >>= tbs_2

-- the frame of a certificate
pub record Frame (b content : List ℕ) : Type 0 where
  pub tbs : List ℕ
  pub algorithm : List ℕ
  pub signature : List ℕ
  pub tbs_is : IsTlv 48 content tbs
  pub algorithm_is : IsField 48 algorithm
  pub signature_is : IsField 3 signature
  pub is : IsTlv 48 (tbs ++ (algorithm ++ signature)) b
  pub inner : IsBytes content

frame_found : (b content : List ℕ) → IsBytes b → tbs_at b ≡ Ok content → Frame b content
unfolding tbs_at
frame_found b content fits e =
    let a0 = bind_ok (placed at.Certificate (only_at 48 b)) tbs_1 content e in
    let a1 = bind_ok (placed at.Tbs (expected_at 48 a0.0)) tbs_2 content a0.2 in
    let a2 = bind_ok (placed at.OuterAlgorithm (expected_at 48 a1.0.1)) (tbs_3 a1.0) content a1.2 in
    let a3 = bind_ok (placed at.Signature (only_at 3 a2.0.1)) (λ signature. Ok a1.0.0) content a2.2 in
    let f0 = only_found 48 b a0.0 fits (placed_ok at.Certificate (only_at 48 b) a0.0 a0.1) in
    let f1 = expected_found 48 a0.0 a1.0 f0.inner (placed_ok at.Tbs (expected_at 48 a0.0) a1.0 a1.1) in
    let f2 = expected_found 48 a1.0.1 a2.0 f1.rest (placed_ok at.OuterAlgorithm (expected_at 48 a1.0.1) a2.0 a2.1) in
    let f3 = only_found 3 a2.0.1 a3.0 f2.rest (placed_ok at.Signature (only_at 3 a2.0.1) a3.0 a3.1) in
    let whole : a0.0 ≡ f1.x ++ (f2.x ++ a2.0.1) = f1.text ∙ ap (λ (y : List ℕ). f1.x ++ y) f2.text in
    subst (λ (y : List ℕ). Frame b y) (one_ok a1.0.0 content (Ok a1.0.0) refl a3.2) (record {
      tbs = f1.x;
      algorithm = f2.x;
      signature = a2.0.1;
      tbs_is = f1.is;
      algorithm_is = (a2.0.0, f2.is);
      signature_is = (a3.0, f3.is);
      is = subst (λ (y : List ℕ). IsTlv 48 y b) whole f0.is;
      inner = f1.inner;
    })

pub read_certificates_are_there : ReadCertificatesAreThere
unfolding certificate_names
read_certificates_are_there ns b fits e =
    let a = bind_ok (tbs_at b) (λ tbs. tbs_names tbs) ns e in
    let f = frame_found b a.0 fits a.1 in
    (a.0, f.tbs, f.algorithm, f.signature, tbs_found a.0 ns f.inner a.2, f.tbs_is, f.algorithm_is, f.signature_is, f.is)

pub read_bare_certificates_are_there : (ns : List Named) (b : List ℕ) → IsBytes b → bare_names b ≡ Ok ns → BareNamesOf ns b
unfolding bare_names
read_bare_certificates_are_there ns b fits e =
    let a = bind_ok (placed at.Tbs (only_at 48 b)) (λ tbs. tbs_names tbs) ns e in
    let f = only_found 48 b a.0 fits (placed_ok at.Tbs (only_at 48 b) a.0 a.1) in
    (a.0, tbs_found a.0 ns f.inner a.2, f.is)
