-- Anything in the grammar is read.
use Rattle.std.proofs.Common.{◌≡◌, ◌<◌, ◌≤◌, ℕ, zero, suc, Bool, true, false, cond, List, [], ◌∷◌, ◌++◌, length, Option, Some, None, Result, Ok, Err, refl, sym, ap, subst, ◌∙◌, inl, inr, arith}
use Rattle.std.proofs.lemmas.List.{append-nil, length-append}
use Rattle.ct_promise.specs.declared.der_fault.DerFault.TheVariants.{Truncated}
use Rattle.ct_promise.specs.Element.{IsTlv}
use Rattle.ct_promise.specs.DerReading.{◌>>=◌, element_at, expected_at, only_at, optional_at}
use Rattle.ct_promise.proofs.Elements.{elements_are_read}
use Rattle.ct_promise.proofs.Readings.{NotFirst, absent, expected_here, only_here, other_first, present, some_bytes}
use Rattle.ct_promise.proofs.Prefixes.{beginnings_are_truncated}
use Rattle.ct_promise.specs.declared.field.Place.TheVariants as at
use Rattle.ct_promise.specs.declared.field.Unread.{Unread}
use Rattle.ct_names.specs.Names.{Named, is_alt}
use Rattle.ct_names.specs.Reading.{placed, each, all_of, alt_at, attribute_at, rdn_at, extension_at, extensions_at, front_at, behind_at, parts_at, tbs_at, tbs_names, certificate_names, bare_names}
use Rattle.ct_names.specs.Certificate.{names_in_all, text_of_all, Each, Many, IsOptional, IsField, IsAltName, IsAttribute, IsRdn, IsValue, IsExtension, AreExtensions, IsTbs}
use Rattle.ct_names.specs.Laws.{CertificatesAreRead, BareCertificatesAreRead, CertificatesHaveOneReading, BeginningsAreRefused, BareBeginningsAreRefused}
use Rattle.ct_names.proofs.Loops.{Item, next}

element_end : (tag : ℕ) (c x : List ℕ) → IsTlv tag c x → element_at x ≡ Ok (tag, c, [])
element_end tag c x is = ap element_at (sym (append-nil x)) ∙ elements_are_read tag c x [] is

-- an optional element, if it is present, and the bytes after it
abbrev Passed : ℕ → List ℕ → List ℕ → Type 0
Passed tag b r = (o : Option (List ℕ)) × (optional_at tag b ≡ Ok (o, r))

optional_here : (tag : ℕ) (x r : List ℕ) → IsOptional tag x → NotFirst tag r → Passed tag (x ++ r) r
optional_here tag x r (inl e) other = (None, ap (λ (y : List ℕ). optional_at tag (y ++ r)) e ∙ absent tag r other)
optional_here tag x r (inr is) other = (Some is.0, present tag is.0 x r is.1)

-- ---- items

each_here : (item : Item) (Is : List Named → List ℕ → Type 0) → ((ns : List Named) (x r : List ℕ) → Is ns x → item (x ++ r) ≡ Ok (ns, r))
    → ((ns : List Named) (x : List ℕ) → Is ns x → 0 < length x) → (L : List (List Named × List ℕ)) (n : ℕ) → length (text_of_all L) ≤ n → Each Is L
    → each item n (text_of_all L) ≡ Ok (names_in_all L)
unfolding each
each_here item Is here some [] zero room all = refl
each_here item Is here some [] (suc n) room all = refl
each_here item Is here some (p ∷ L) n room all =
    let size = length-append p.1 (text_of_all L) in
    let low = some p.0 p.1 all.0 in
    let step = next item n (p.1 ++ text_of_all L) (omega (arith, size, low)) room in
    let rest = each_here item Is here some L step.0 (omega (arith, size, low, room, step.1)) all.1 in
    step.2 ∙ ap (λ (x : Result (List Named × List ℕ) Unread). x >>= λ r. each item step.0 r.1 >>= λ ns. Ok (r.0 ++ ns)) (here p.0 p.1 (text_of_all L) all.0)
    ∙ ap (λ (x : Result (List Named) Unread). x >>= λ ns. Ok (p.0 ++ ns)) rest

many_here : (item : Item) (Is : List Named → List ℕ → Type 0) → ((ns : List Named) (x r : List ℕ) → Is ns x → item (x ++ r) ≡ Ok (ns, r))
    → ((ns : List Named) (x : List ℕ) → Is ns x → 0 < length x) → (ns : List Named) (b : List ℕ) → Many Is ns b → all_of item b ≡ Ok ns
many_here item Is here some ns b m =
    ap (all_of item) m.3 ∙ each_here item Is here some m.0 (length (text_of_all m.0)) (omega arith) m.1 ∙ ap (λ (l : List Named). Ok l) (sym m.2)

alt_here : (ns : List Named) (x r : List ℕ) → IsAltName ns x → alt_at (x ++ r) ≡ Ok (ns, r)
unfolding alt_at
alt_here ns x r is = rw (elements_are_read is.0 is.1 x r is.2, is.3) (ap (λ (l : List Named). Ok (l, r)) (sym is.4))

alt_some : (ns : List Named) (x : List ℕ) → IsAltName ns x → 0 < length x
alt_some ns x is = some_bytes is.0 is.1 x is.2

attribute_here : (ns : List Named) (x r : List ℕ) → IsAttribute ns x → attribute_at (x ++ r) ≡ Ok (ns, r)
unfolding attribute_at
attribute_here ns x r (tag, oid, value, o, v, ho, hv, hx, fine, e) =
    rw (expected_here 48 (o ++ v) x r hx, expected_here 6 oid o v ho, element_end tag value v hv, fine) (ap (λ (l : List Named). Ok (l, r)) (sym e))

attribute_some : (ns : List Named) (x : List ℕ) → IsAttribute ns x → 0 < length x
attribute_some ns x (tag, oid, value, o, v, ho, hv, hx, fine, e) = some_bytes 48 (o ++ v) x hx

rdn_here : (ns : List Named) (x r : List ℕ) → IsRdn ns x → rdn_at (x ++ r) ≡ Ok (ns, r)
unfolding rdn_at
rdn_here ns x r is =
    let all = many_here attribute_at IsAttribute attribute_here attribute_some ns is.0 is.1 in
    rw (expected_here 49 is.0 x r is.2, all) refl

rdn_some : (ns : List Named) (x : List ℕ) → IsRdn ns x → 0 < length x
rdn_some ns x is = some_bytes 49 is.0 x is.2

abbrev value_at : Bool → List ℕ → List ℕ → Result (List Named × List ℕ) Unread
value_at b value r = cond b (placed at.AltNames (only_at 48 value) >>= λ alts. all_of alt_at alts >>= λ names. Ok (names, r)) (Ok ([], r))

value_here : (b : Bool) (ns : List Named) (value r : List ℕ) → IsValue b ns value → value_at b value r ≡ Ok (ns, r)
value_here true ns value r is =
    let all = many_here alt_at IsAltName alt_here alt_some ns is.0 is.2 in
    rw (only_here 48 is.0 value is.1, all) refl
value_here false ns value r is = ap (λ (l : List Named). Ok (l, r)) (sym is)

extension_here : (ns : List Named) (x r : List ℕ) → IsExtension ns x → extension_at (x ++ r) ≡ Ok (ns, r)
unfolding extension_at
extension_here ns x r (oid, value, o, critical, v, ho, hc, hv, hx, e) =
    let other : NotFirst 1 v = subst (λ (y : List ℕ). NotFirst 1 y) (append-nil v) (other_first 1 4 value v [] hv (λ q. absurd (omega (arith, q)))) in
    let flag = optional_here 1 critical v hc other in
    rw (expected_here 48 (o ++ (critical ++ v)) x r hx, expected_here 6 oid o (critical ++ v) ho, flag.1, only_here 4 value v hv)
    (value_here (is_alt oid) ns value r e)

extension_some : (ns : List Named) (x : List ℕ) → IsExtension ns x → 0 < length x
extension_some ns x (oid, value, o, critical, v, ho, hc, hv, hx, e) = some_bytes 48 (o ++ (critical ++ v)) x hx

-- ---- certificates

abbrev ListAt : List Named → List ℕ → Type 0
ListAt ns x = (list : List ℕ) × (extensions_at x ≡ Ok list) × (all_of extension_at list ≡ Ok ns)

extensions_here : (ns : List Named) (x : List ℕ) → AreExtensions ns x → ListAt ns x
unfolding extensions_at each
extensions_here ns x (inl e) = ([], ap extensions_at e.0, ap (λ (l : List Named). Ok l) (sym e.1))
extensions_here ns x (inr (list, c, many, inner, outer)) =
    let read : only_at 163 (163 ∷ (outer.size ++ c)) ≡ Ok c = ap (only_at 163) (sym outer.text) ∙ only_here 163 c x outer in
    let all = many_here extension_at IsExtension extension_here extension_some ns list many in
    (list, ap extensions_at outer.text ∙ rw (read, only_here 48 list c inner) refl, all)

extensions_first : (tag : ℕ) (ns : List Named) (x : List ℕ) → AreExtensions ns x → (163 ≡ tag → ⊥) → NotFirst tag x
extensions_first tag ns x (inl e) other = subst (λ (y : List ℕ). NotFirst tag y) (sym e.0) tt
extensions_first tag ns x (inr (list, c, many, inner, outer)) other =
    subst (λ (y : List ℕ). NotFirst tag y) (append-nil x) (other_first tag 163 c x [] outer other)

optional_first : (tag t : ℕ) (x r : List ℕ) → IsOptional t x → (t ≡ tag → ⊥) → NotFirst tag r → NotFirst tag (x ++ r)
optional_first tag t x r (inl e) other next = subst (λ (y : List ℕ). NotFirst tag (y ++ r)) (sym e) next
optional_first tag t x r (inr is) other next = other_first tag t is.0 x r is.1 other

front_here : (version serial algorithm issuer validity r : List ℕ) → IsOptional 160 version → IsField 2 serial → IsField 48 algorithm → IsField 48 issuer
    → IsField 48 validity → front_at (version ++ (serial ++ (algorithm ++ (issuer ++ (validity ++ r))))) ≡ Ok r
unfolding front_at
front_here version serial algorithm issuer validity r h0 h1 h2 h3 h4 =
    let behind = serial ++ (algorithm ++ (issuer ++ (validity ++ r))) in
    let other : NotFirst 160 behind = other_first 160 2 h1.0 serial (algorithm ++ (issuer ++ (validity ++ r))) h1.1 (λ q. absurd (omega (arith, q))) in
    let flag = optional_here 160 version behind h0 other in
    rw (
      flag.1,
      expected_here 2 h1.0 serial (algorithm ++ (issuer ++ (validity ++ r))) h1.1,
      expected_here 48 h2.0 algorithm (issuer ++ (validity ++ r)) h2.1,
      expected_here 48 h3.0 issuer (validity ++ r) h3.1,
      expected_here 48 h4.0 validity r h4.1,
    ) refl

behind_here : (key issuer subject extensions list : List ℕ) (ns : List Named) → IsField 48 key → IsOptional 129 issuer → IsOptional 130 subject
    → AreExtensions ns extensions → extensions_at extensions ≡ Ok list → behind_at (key ++ (issuer ++ (subject ++ extensions))) ≡ Ok list
unfolding behind_at
behind_here key issuer subject extensions list ns h0 h1 h2 h3 read =
    let second : NotFirst 130 extensions = extensions_first 130 ns extensions h3 (λ q. absurd (omega (arith, q))) in
    let low : NotFirst 129 extensions = extensions_first 129 ns extensions h3 (λ q. absurd (omega (arith, q))) in
    let first : NotFirst 129 (subject ++ extensions) = optional_first 129 130 subject extensions h2 (λ q. absurd (omega (arith, q))) low in
    let one = optional_here 129 issuer (subject ++ extensions) h1 first in
    let two = optional_here 130 subject extensions h2 second in
    rw (expected_here 48 h0.0 key (issuer ++ (subject ++ extensions)) h0.1, one.1, two.1) read

tbs_here : (ns : List Named) (b : List ℕ) → IsTbs ns b → tbs_names b ≡ Ok ns
unfolding tbs_names parts_at
tbs_here ns b t =
    let tail = t.key ++ (t.issuer_id ++ (t.subject_id ++ t.extensions)) in
    let list = extensions_here t.alts t.extensions t.extensions_are in
    let front = front_here t.version t.serial t.algorithm t.issuer t.validity (t.subject ++ tail) t.version_is t.serial_is t.algorithm_is t.issuer_is t.validity_is in
    let behind = behind_here t.key t.issuer_id t.subject_id t.extensions list.0 t.alts t.key_is t.issuer_id_is t.subject_id_is t.extensions_are list.1 in
    let common = many_here rdn_at IsRdn rdn_here rdn_some t.common t.rdns t.rdns_are in
    ap tbs_names t.text ∙ rw (front, expected_here 48 t.rdns t.subject tail t.subject_is, behind, common, list.2) (ap (λ (l : List Named). Ok l) (sym t.names))

pub certificates_are_read : CertificatesAreRead
unfolding certificate_names tbs_at
certificates_are_read ns b (content, tbs, algorithm, signature, is, inner, a, s, outer) =
    rw (
      only_here 48 (tbs ++ (algorithm ++ signature)) b outer,
      expected_here 48 content tbs (algorithm ++ signature) inner,
      expected_here 48 a.0 algorithm signature a.1,
      only_here 3 s.0 signature s.1,
    ) (tbs_here ns content is)

pub bare_certificates_are_read : BareCertificatesAreRead
unfolding bare_names
bare_certificates_are_read ns b (content, is, outer) = rw (only_here 48 content b outer) (tbs_here ns content is)

one_value : {A : Type 0} (x y : A) (r : Result A Unread) → r ≡ Ok x → r ≡ Ok y → x ≡ y
one_value x y r p q = cc

pub certificates_have_one_reading : CertificatesHaveOneReading
certificates_have_one_reading ns ms b p q = one_value ns ms (certificate_names b) (certificates_are_read ns b p) (certificates_are_read ms b q)

cut_whole : (y : List ℕ) → element_at y ≡ Err Truncated → only_at 48 y ≡ Err Truncated
unfolding only_at expected_at
cut_whole y e = rw e refl

pub beginnings_are_refused : BeginningsAreRefused
unfolding certificate_names tbs_at
beginnings_are_refused ns b y s (content, tbs, algorithm, signature, is, inner, a, g, outer) some e =
    rw (cut_whole y (beginnings_are_truncated 48 (tbs ++ (algorithm ++ signature)) b y s outer some e)) refl

pub bare_beginnings_are_refused : BareBeginningsAreRefused
unfolding bare_names
bare_beginnings_are_refused ns b y s (content, is, outer) some e = rw (cut_whole y (beginnings_are_truncated 48 content b y s outer some e)) refl
