-- Identities, and the entries that have them.
use Rattle.std.proofs.Common.{◌≡◌, ◌++◌, [], refl, sym, ap, ◌∙◌, arith, append-nil}
use Rattle.std.specs.Prelude.{Bool, true, false}
use Rattle.std.specs.Str.{bytes_eq}
use Rattle.std.specs.Cmp.Lexicographic.{bytes_decides}
use Rattle.ct_codec.specs.Bytes.{num, vec}
use Rattle.ct_codec.specs.Leaf.{SignedEntry, certificate, precertificate, IsEntry, entry_text, type_of, key_hash_of, signed_of}
use Rattle.ct_codec.specs.Laws.{IdentitiesAreEntries}
use Rattle.ct_codec.specs.Submitted.{Submitted, entry_of, identity_of}
use Rattle.ct_codec.proofs.Apart.{entry_split}

-- an entry's text in parts
pub entry_parts : (e : SignedEntry) → entry_text e ≡ num 2 (type_of e) ++ (key_hash_of e ++ vec 3 (signed_of e))
entry_parts (certificate c) = refl
entry_parts (precertificate k c) = refl

-- an entry is its type, its key hash and what is signed
pub same_parts : (d e : SignedEntry) → type_of d ≡ type_of e → key_hash_of d ≡ key_hash_of e → signed_of d ≡ signed_of e → d ≡ e
same_parts (certificate c) (certificate f) t k s = ap certificate s
same_parts (precertificate k c) (precertificate l f) t key s = cc
same_parts (certificate c) (precertificate l f) t k s = absurd (omega (arith, t))
same_parts (precertificate k c) (certificate f) t key s = absurd (omega (arith, t))

pub identities_are_entries : IdentitiesAreEntries
identities_are_entries s t p q = (
  λ e. (entry_split (entry_of s) (entry_of t) [] [] p q (append-nil (identity_of s) ∙ e ∙ sym (append-nil (identity_of t)))).0,
  λ e. ap entry_text e,
)

alike : (a b : Bool) → (a ≡ true → b ≡ true) → (b ≡ true → a ≡ true) → a ≡ b
alike true b f g = sym (f refl)
alike false true f g = g refl
alike false false f g = refl

refuted : (b : Bool) → (b ≡ true → ⊥) → false ≡ b
refuted true f = absurd (f refl)
refuted false f = refl

-- entries with the same type and the same key hash have the same identity if their signed parts are the same
pub same_signed : (s t : Submitted) → IsEntry (entry_of s) → IsEntry (entry_of t) → type_of (entry_of s) ≡ type_of (entry_of t)
    → key_hash_of (entry_of s) ≡ key_hash_of (entry_of t)
    → bytes_eq (signed_of (entry_of s)) (signed_of (entry_of t)) ≡ bytes_eq (identity_of s) (identity_of t)
same_signed s t p q types keys =
    let signed = bytes_decides (signed_of (entry_of s)) (signed_of (entry_of t)) in
    let whole = bytes_decides (identity_of s) (identity_of t) in
    let law = identities_are_entries s t p q in
    alike _ _ (λ h. whole.1 (law.1 (same_parts (entry_of s) (entry_of t) types keys (signed.0 h)))) (λ h. signed.1 (ap signed_of (law.0 (whole.0 h))))

-- entries with different types, or different key hashes, have different identities
pub other_type : (s t : Submitted) → IsEntry (entry_of s) → IsEntry (entry_of t) → (type_of (entry_of s) ≡ type_of (entry_of t) → ⊥)
    → false ≡ bytes_eq (identity_of s) (identity_of t)
other_type s t p q differ = refuted _ (λ h. differ (ap type_of ((identities_are_entries s t p q).0 ((bytes_decides (identity_of s) (identity_of t)).0 h))))

pub other_key : (s t : Submitted) → IsEntry (entry_of s) → IsEntry (entry_of t) → false ≡ bytes_eq (key_hash_of (entry_of s)) (key_hash_of (entry_of t))
    → false ≡ bytes_eq (identity_of s) (identity_of t)
other_key s t p q differ =
    refuted _ (λ h. absurd (apart (differ ∙ (bytes_decides (key_hash_of (entry_of s)) (key_hash_of (entry_of t))).1
    (ap key_hash_of ((identities_are_entries s t p q).0 ((bytes_decides (identity_of s) (identity_of t)).0 h))))))
  where
    apart : false ≡ true → ⊥
    apart e = cc
