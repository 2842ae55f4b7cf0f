-- The bytes of names are the bytes of no other names.
use Rattle.std.proofs.Common.{◌≡◌, ◌∙◌, ◌<◌, ◌^◌, ℕ, List, [], ◌∷◌, ◌++◌, length, refl, sym, ap, arith}
use Rattle.std.proofs.lemmas.List.Elements.{All-head, All-tail}
use Rattle.std.specs.Prelude.{All, ◌==◌, if◌then◌else◌}
use Rattle.ct_codec.specs.Bytes.{vec}
use Rattle.ct_codec.proofs.Apart.{vec_split}
use Rattle.ct_names.specs.Names.{Named}
use Rattle.ct_names.specs.declared.name.NameKind.{NameKind}
use Rattle.ct_names.specs.declared.name.NameKind.TheVariants as kind
use Rattle.ct_names.specs.NameBytes.{kind_number, name_bytes, names_bytes, HasLength, NamesTextsDiffer}

-- the kind whose number this is
abbrev kind_of : ℕ → NameKind
kind_of n =
    if n == 1 then kind.Common
    else (if n == 2 then kind.WideCommon
    else (if n == 3 then kind.WidestCommon
    else (if n == 4 then kind.Dns else (if n == 5 then kind.Mail else (if n == 6 then kind.Uri else kind.Address)))))

kind_read : (k : NameKind) → kind_of (kind_number k) ≡ k
kind_read kind.Common = refl
kind_read kind.WideCommon = refl
kind_read kind.WidestCommon = refl
kind_read kind.Dns = refl
kind_read kind.Mail = refl
kind_read kind.Uri = refl
kind_read kind.Address = refl

one_kind : (k l : NameKind) → kind_number k ≡ kind_number l → k ≡ l
one_kind k l e = sym (kind_read k) ∙ ap kind_of e ∙ kind_read l

one_name : (n m : Named) → n.kind ≡ m.kind → n.bytes ≡ m.bytes → n ≡ m
one_name n m k b =
    let first : n ≡ record { kind = m.kind; bytes = n.bytes } = ap (λ t. let x : Named = record { kind = t; bytes = n.bytes } in x) k in
    first ∙ ap (λ t. let x : Named = record { kind = m.kind; bytes = t } in x) b

pub names_texts_differ : NamesTextsDiffer
names_texts_differ [] [] h k e = refl
names_texts_differ [] (m ∷ ms) h k e = absurd (omega (arith, ap length e))
names_texts_differ (n ∷ ns) [] h k e = absurd (omega (arith, ap length e))
names_texts_differ (n ∷ ns) (m ∷ ms) h k e =
    let number : kind_number n.kind ≡ kind_number m.kind = cc in
    let behind : vec 8 n.bytes ++ names_bytes ns ≡ vec 8 m.bytes ++ names_bytes ms = cc in
    let parts = vec_split 8 n.bytes m.bytes (names_bytes ns) (names_bytes ms) (All-head HasLength n ns h) (All-head HasLength m ms k) behind in
    let first = one_name n m (one_kind n.kind m.kind number) parts.0 in
    let rest = names_texts_differ ns ms (All-tail HasLength n ns h) (All-tail HasLength m ms k) parts.1 in
    cc
