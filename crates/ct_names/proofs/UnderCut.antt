-- A TBSCertificate without one extension has the names that it had.
use Rattle.std.proofs.Common.{◌≡◌, ◌⊎◌, ◌∙◌, ◌++◌, ℕ, List, [], ◌∷◌, length, Bool, true, false, Ok, sym, refl, ap, subst, inl, inr, arith}
use Rattle.std.proofs.lemmas.List.{append_assoc, append_cancel_right}
use Rattle.std.specs.List.{AllByRecursion}
use Rattle.ct_promise.specs.Element.{IsTlv}
use Rattle.ct_promise.proofs.Elements.{elements_stand_apart}
use Rattle.ct_promise.proofs.Readings.{one_ok, some_bytes}
use Rattle.ct_promise.specs.Reading.{after_fields}
use Rattle.ct_promise.specs.Tbs.{may, IsFieldOf, AreFields, tbs_fields, IsExtensionWith, IsOther, all_joined, IsExtensionsField}
use Rattle.ct_promise.specs.declared.field.Place.{Place}
use Rattle.ct_promise.specs.declared.field.Place.TheVariants as at
use Rattle.ct_promise.proofs.Here.{head_here, head_alone}
use Rattle.ct_names.specs.Certificate.{names_in_all, text_of_all, Each, Many, IsOptional, IsExtension, IsValue, AreExtensions, IsTbs}
use Rattle.ct_names.specs.Laws.{NamesStayUnderTheCut, NamesAreOfTheTbs}
use Rattle.ct_names.specs.Names.{Named, is_alt}

-- ---- elements

same_text : (t u : ℕ) (c d x y r s : List ℕ) → IsTlv t c x → IsTlv u d y → x ++ r ≡ y ++ s → x ≡ y
same_text t u c d x y r s p q e =
    let apart = elements_stand_apart t u c d x y r s p q e in
    append_cancel_right x y s (subst (λ (l : List ℕ). x ++ l ≡ y ++ s) apart.2 e)

same_content : (t : ℕ) (c d x y : List ℕ) → IsTlv t c x → IsTlv t d y → x ≡ y → c ≡ d
same_content t c d x y p q e =
    let apart = elements_stand_apart t t c d x y [] [] p q (ap (λ (l : List ℕ). l ++ []) e) in apart.1

-- ---- items, one after the other

abbrev IsSome : List ℕ → Type 0
IsSome x = (c : List ℕ) × IsTlv 48 c x

extension_is_some : (ns : List Named) (x : List ℕ) → IsExtension ns x → IsSome x
extension_is_some ns x (oid, value, o, critical, v, is_o, is_c, is_v, whole, names) = (o ++ (critical ++ v), whole)

nothing_there : (x r : List ℕ) → IsSome x → [] ≡ x ++ r → ⊥
nothing_there [] r s e = absurd (omega (arith, some_bytes 48 s.0 [] s.1))
nothing_there (b ∷ x) r s e = cc

none_left : (L : List (List Named × List ℕ)) → Each IsExtension L → text_of_all L ≡ [] → names_in_all L ≡ []
none_left [] each e = refl
none_left (p ∷ L) each e = absurd (nothing_there p.1 (text_of_all L) (extension_is_some p.0 p.1 each.0) (sym e))

each_append : (M N : List (List Named × List ℕ)) → Each IsExtension M → Each IsExtension N → Each IsExtension (M ++ N)
each_append [] N m n = n
each_append (p ∷ M) N m n = (m.0, each_append M N m.1 n)

names_append : (M N : List (List Named × List ℕ)) → names_in_all (M ++ N) ≡ names_in_all M ++ names_in_all N
names_append [] N = refl
names_append (p ∷ M) N = ap (λ (l : List Named). p.0 ++ l) (names_append M N) ∙ sym (append_assoc p.0 (names_in_all M) (names_in_all N))

text_append : (M N : List (List Named × List ℕ)) → text_of_all (M ++ N) ≡ text_of_all M ++ text_of_all N
text_append [] N = refl
text_append (p ∷ M) N = ap (λ (l : List ℕ). p.1 ++ l) (text_append M N) ∙ sym (append_assoc p.1 (text_of_all M) (text_of_all N))

-- the items that these texts and the bytes after them consist of
pub record CutAt (L : List (List Named × List ℕ)) (front behind : List ℕ) : Type 0 where
  pub before : List (List Named × List ℕ)
  pub after : List (List Named × List ℕ)
  pub each_before : Each IsExtension before
  pub each_after : Each IsExtension after
  pub names : names_in_all L ≡ names_in_all before ++ names_in_all after
  pub front_is : text_of_all before ≡ front
  pub behind_is : text_of_all after ≡ behind

cut_behind : (identifier : List ℕ) (F : List (List ℕ)) (behind : List ℕ) (L : List (List Named × List ℕ)) → AllByRecursion (IsOther identifier) F
    → Each IsExtension L → text_of_all L ≡ all_joined F ++ behind → CutAt L (all_joined F) behind
cut_behind identifier [] behind L others each e = record {
  before = [];
  after = L;
  each_before = tt;
  each_after = each;
  names = refl;
  front_is = refl;
  behind_is = e;
}
cut_behind identifier (f ∷ F) behind [] others each e =
    let is : IsExtensionWith others.0.0 others.0.1 f = others.0.3 in
    absurd (nothing_there f (all_joined F ++ behind) (_, is.text) (e ∙ append_assoc f (all_joined F) behind))
cut_behind identifier (f ∷ F) behind (p ∷ L) others each e =
    let is : IsExtensionWith others.0.0 others.0.1 f = others.0.3 in
    let whole : p.1 ++ text_of_all L ≡ f ++ (all_joined F ++ behind) = e ∙ append_assoc f (all_joined F) behind in
    let one = extension_is_some p.0 p.1 each.0 in
    let apart = elements_stand_apart 48 48 one.0 _ p.1 f (text_of_all L) (all_joined F ++ behind) one.1 is.text whole in
    let rest = cut_behind identifier F behind L others.1 each.1 apart.2 in
    let text : p.1 ≡ f = same_text 48 48 one.0 _ p.1 f (text_of_all L) (all_joined F ++ behind) one.1 is.text whole in
    record {
      before = p ∷ rest.before;
      after = rest.after;
      each_before = (each.0, rest.each_before);
      each_after = rest.each_after;
      names = ap (λ (l : List Named). p.0 ++ l) rest.names ∙ sym (append_assoc p.0 (names_in_all rest.before) (names_in_all rest.after));
      front_is = ap (λ (l : List ℕ). l ++ text_of_all rest.before) text ∙ ap (λ (l : List ℕ). f ++ l) rest.front_is;
      behind_is = rest.behind_is;
    }

-- an extension with an identifier other than subjectAltName's has no names
has_none : (b : Bool) (ns : List Named) (value : List ℕ) → b ≡ false → IsValue b ns value → ns ≡ []
has_none true ns value e v = cc
has_none false ns value e v = v

cut_has_none : (identifier value x y : List ℕ) (ns : List Named) → is_alt identifier ≡ false → IsExtensionWith identifier value x → IsExtension ns y → y ≡ x
    → ns ≡ []
cut_has_none identifier value x y ns other is (oid, own, o, critical, v, is_o, is_c, is_v, whole, names) same =
    let inner : o ++ (critical ++ v) ≡ is.name ++ (is.critical ++ is.content) = same_content 48 _ _ y x whole is.text same in
    let apart = elements_stand_apart 6 6 oid identifier o is.name (critical ++ v) (is.critical ++ is.content) is_o is.name_is inner in
    has_none (is_alt oid) ns own (ap (λ (i : List ℕ). is_alt i) apart.1 ∙ other) names

-- the extensions without the one that is cut out
without_one : (identifier value cut : List ℕ) (F : List (List ℕ)) (behind : List ℕ) (ns : List Named) → is_alt identifier ≡ false
    → AllByRecursion (IsOther identifier) F → IsExtensionWith identifier value cut → Many IsExtension ns (all_joined F ++ (cut ++ behind))
    → Many IsExtension ns (all_joined F ++ behind)
without_one identifier value cut F behind ns other others is (L, each, names, text) =
    let cut_at = cut_behind identifier F (cut ++ behind) L others each (sym text) in
    drop_one cut_at.before cut_at.after cut_at.each_before cut_at.each_after cut_at.names cut_at.front_is cut_at.behind_is
  where
    drop_one : (M N : List (List Named × List ℕ)) → Each IsExtension M → Each IsExtension N → names_in_all L ≡ names_in_all M ++ names_in_all N
        → text_of_all M ≡ all_joined F → text_of_all N ≡ cut ++ behind → Many IsExtension ns (all_joined F ++ behind)
    drop_one M [] m n all front rest = absurd (nothing_there cut behind (_, is.text) rest)
    drop_one M (q ∷ N) m n all front rest =
        let one = extension_is_some q.0 q.1 n.0 in
        let apart = elements_stand_apart 48 48 one.0 _ q.1 cut (text_of_all N) behind one.1 is.text rest in
        let same : q.1 ≡ cut = same_text 48 48 one.0 _ q.1 cut (text_of_all N) behind one.1 is.text rest in
        let none : q.0 ≡ [] = cut_has_none identifier value cut q.1 q.0 other is n.0 same in (
          M ++ N,
          each_append M N m n.1,
          names ∙ all ∙ ap (λ (l : List Named). names_in_all M ++ (l ++ names_in_all N)) none ∙ sym (names_append M N),
          sym (text_append M N ∙ ap (λ (l : List ℕ). l ++ text_of_all N) front ∙ ap (λ (l : List ℕ). all_joined F ++ l) apart.2),
        )

-- ---- the fields before the extensions

abbrev IsExtensions : List ℕ → Type 0
IsExtensions x = (x ≡ []) ⊎ ((c : List ℕ) × IsTlv 163 c x)

fields_read : (h x : List ℕ) → AreFields tbs_fields h → IsExtensions x → after_fields tbs_fields (h ++ x) ≡ Ok x
fields_read h x are (inl e) = subst (λ (l : List ℕ). after_fields tbs_fields (h ++ l) ≡ Ok l) (sym e) (head_alone h are)
fields_read h x are (inr t) = head_here h t.0 x are t.1

same_field : (h x i y : List ℕ) → AreFields tbs_fields h → AreFields tbs_fields i → IsExtensions x → IsExtensions y → h ++ x ≡ i ++ y → x ≡ y
same_field h x i y are also xs ys e =
    one_ok x y (after_fields tbs_fields (h ++ x)) (fields_read h x are xs)
    (subst (λ (l : List ℕ). after_fields tbs_fields l ≡ Ok y) (sym e) (fields_read i y also ys))

optional_field : (tag : ℕ) (place : Place) (x : List ℕ) → IsOptional tag x → IsFieldOf (may tag place) x
optional_field tag place x (inl e) = inl (refl, e)
optional_field tag place x (inr t) = inr t

-- the fields of a TBSCertificate before its extensions
abbrev head_of : {ns : List Named} {b : List ℕ} → IsTbs ns b → List ℕ
head_of t =
    t.version ++ (t.serial ++ (t.algorithm ++ (t.issuer ++ (t.validity ++ (t.subject ++ (t.key ++ (t.issuer_id ++ (t.subject_id ++ []))))))))

head_fields : (ns : List Named) (b : List ℕ) (t : IsTbs ns b) → AreFields tbs_fields (head_of t)
head_fields ns b t = (
  t.version,
  _,
  optional_field 160 at.Version t.version t.version_is,
  (
    t.serial,
    _,
    inr t.serial_is,
    (
      t.algorithm,
      _,
      inr t.algorithm_is,
      (
        t.issuer,
        _,
        inr t.issuer_is,
        (
          t.validity,
          _,
          inr t.validity_is,
          (
            t.subject,
            _,
            inr (t.rdns, t.subject_is),
            (
              t.key,
              _,
              inr t.key_is,
              (
                t.issuer_id,
                _,
                optional_field 129 at.IssuerId t.issuer_id t.issuer_id_is,
                (t.subject_id, [], optional_field 130 at.SubjectId t.subject_id t.subject_id_is, refl, refl),
                refl,
              ),
              refl,
            ),
            refl,
          ),
          refl,
        ),
        refl,
      ),
      refl,
    ),
    refl,
  ),
  refl,
)

one_front : (x r y z : List ℕ) → r ++ y ≡ z → (x ++ r) ++ y ≡ x ++ z
one_front x r y z e = append_assoc x r y ∙ ap (λ (l : List ℕ). x ++ l) e

-- the head and a field of extensions, as a TBSCertificate has them
head_and : (ns : List Named) (b : List ℕ) (t : IsTbs ns b) (y : List ℕ)
    → head_of t ++ y
    ≡ t.version ++ (t.serial ++ (t.algorithm ++ (t.issuer ++ (t.validity ++ (t.subject ++ (t.key ++ (t.issuer_id ++ (t.subject_id ++ y))))))))
head_and ns b t y =
    one_front t.version _ y _ (one_front t.serial _ y _ (one_front t.algorithm _ y _ (one_front t.issuer _ y _ (one_front t.validity _ y _
    (one_front t.subject _ y _ (one_front t.key _ y _ (one_front t.issuer_id _ y _ (one_front t.subject_id [] y y refl))))))))

are_extensions : (ns : List Named) (x : List ℕ) → AreExtensions ns x → IsExtensions x
are_extensions ns x (inl e) = inl e.0
are_extensions ns x (inr (list, c, many, inner, outer)) = inr (c, outer)

-- ---- the extensions' field

not_nothing : (c x : List ℕ) → IsTlv 163 c x → x ≡ [] → ⊥
not_nothing c x t e = absurd (omega (arith, some_bytes 163 c x t, ap length e))

listed : (alts : List Named) (x list c y : List ℕ) → AreExtensions alts x → IsTlv 48 list c → IsTlv 163 c y → x ≡ y → Many IsExtension alts list
listed alts x list c y (inl e) inner outer same = absurd (not_nothing c y outer (sym same ∙ e.0))
listed alts x list c y (inr (own, d, many, own_inner, own_outer)) inner outer same =
    let outer_same : d ≡ c = same_content 163 d c x y own_outer outer same in
    let inner_same : own ≡ list = same_content 48 own list d c own_inner inner outer_same in
    subst (λ (l : List ℕ). Many IsExtension alts l) inner_same many

field_without : (alts : List Named) (list x : List ℕ) → Many IsExtension alts list → IsExtensionsField list x → AreExtensions alts x
field_without alts list x (L, each, names, text) (inl e) = inl (e.1, names ∙ none_left L each (sym text ∙ e.0))
field_without alts list x many (inr (c, some, inner, outer)) = inr (list, c, many, inner, outer)

with_extensions : (ns : List Named) (b : List ℕ) (t : IsTbs ns b) (y : List ℕ) → AreExtensions t.alts y → IsTbs ns (head_of t ++ y)
with_extensions ns b t y are = record {
  common = t.common;
  alts = t.alts;
  version = t.version;
  serial = t.serial;
  algorithm = t.algorithm;
  issuer = t.issuer;
  validity = t.validity;
  subject = t.subject;
  rdns = t.rdns;
  key = t.key;
  issuer_id = t.issuer_id;
  subject_id = t.subject_id;
  extensions = y;
  version_is = t.version_is;
  serial_is = t.serial_is;
  algorithm_is = t.algorithm_is;
  issuer_is = t.issuer_is;
  validity_is = t.validity_is;
  subject_is = t.subject_is;
  rdns_are = t.rdns_are;
  key_is = t.key_is;
  issuer_id_is = t.issuer_id_is;
  subject_id_is = t.subject_id_is;
  extensions_are = are;
  names = t.names;
  text = head_and ns b t y;
}

pub names_stay : NamesStayUnderTheCut
names_stay identifier p b c ns other parted (field, is_field, whole) (content, t, is) =
    let halves : head_of t ++ t.extensions ≡ p.head ++ parted.field =
    head_and ns content t t.extensions ∙ sym t.text ∙ same_content 48 content (p.head ++ parted.field) b b is parted.text refl in
    let head_are = head_fields ns content t in
    let exts = are_extensions t.alts t.extensions t.extensions_are in
    let same : t.extensions ≡ parted.field =
    same_field (head_of t) t.extensions p.head parted.field head_are parted.fields exts (inr (parted.list, parted.field_is)) halves in
    let head : head_of t ≡ p.head =
    append_cancel_right (head_of t) p.head parted.field (subst (λ (l : List ℕ). head_of t ++ l ≡ p.head ++ parted.field) same halves) in
    let many : Many IsExtension t.alts (p.front ++ (p.cut ++ p.behind)) =
    listed t.alts t.extensions (p.front ++ (p.cut ++ p.behind)) parted.list parted.field t.extensions_are parted.list_is parted.field_is same in
    let F = parted.front in
    let at_front : Many IsExtension t.alts (all_joined F.0 ++ (p.cut ++ p.behind)) =
    subst (λ (l : List ℕ). Many IsExtension t.alts (l ++ (p.cut ++ p.behind))) F.2 many in
    let less = without_one identifier p.value p.cut F.0 p.behind t.alts other F.1 parted.cut at_front in
    let left : Many IsExtension t.alts (p.front ++ p.behind) = subst (λ (l : List ℕ). Many IsExtension t.alts (l ++ p.behind)) (sym F.2) less in
    let are = field_without t.alts (p.front ++ p.behind) field left is_field in
    let tbs = subst (λ (h : List ℕ). IsTbs ns (h ++ field)) head (with_extensions ns content t field are) in
    (p.head ++ field, tbs, whole)

pub names_of_tbs : NamesAreOfTheTbs
names_of_tbs tbs b ns is (content, own, algorithm, signature, names, inner, a, s, whole) =
    let same : own ++ (algorithm ++ signature) ≡ tbs ++ (is.algorithm ++ is.signature) = same_content 48 _ _ b b whole is.text refl in
    let text : own ≡ tbs = same_text 48 48 content is.content own tbs (algorithm ++ signature) (is.algorithm ++ is.signature) inner is.tbs_is same in
    (content, names, subst (λ (x : List ℕ). IsTlv 48 content x) text inner)
