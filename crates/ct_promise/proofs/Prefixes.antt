-- Each proper prefix of an element is refused as truncated.
use Rattle.std.proofs.Common.{◌≡◌, ◌<◌, ℕ, List, [], ◌∷◌, ◌++◌, length, Result, Err, refl, sym, ap, subst, ◌∙◌, ◌⊎◌, inl, inr, arith}
use Rattle.std.proofs.lemmas.Bool.{lt-ltb}
use Rattle.std.proofs.lemmas.List.{length-append}
use Rattle.ct_promise.specs.declared.der_fault.DerFault.{DerFault}
use Rattle.ct_promise.specs.declared.der_fault.DerFault.TheVariants.{Truncated}
use Rattle.ct_promise.specs.Element.{IsLength}
use Rattle.ct_promise.specs.DerReading.{◌>>=◌, long_1, long_2, long_3, long_4, length_at, cut_at, element_at}
use Rattle.ct_promise.specs.DerLaws.{BeginningsAreTruncated}
use Rattle.ct_promise.proofs.Elements.{length_again, in_front}

same_head : (a b : ℕ) (x y : List ℕ) → a ∷ x ≡ b ∷ y → a ≡ b
same_head a b x y e = cc

same_tail : (a b : ℕ) (x y : List ℕ) → a ∷ x ≡ b ∷ y → x ≡ y
same_tail a b x y e = cc

-- of two prefixes of a list, one is a prefix of the other
split : (l c y s : List ℕ) → l ++ c ≡ y ++ s
    → ((d : List ℕ) × (y ≡ l ++ d) × (c ≡ d ++ s)) ⊎ ((z : List ℕ) × (0 < length z) × (l ≡ y ++ z))
split [] c y s e = inl (y, refl, e)
split (a ∷ l) c [] s e = inr (a ∷ l, omega arith, refl)
split (a ∷ l) c (q ∷ y) s e =
    let head = same_head a q (l ++ c) (y ++ s) e in
    elim (split l c y s (same_tail a q (l ++ c) (y ++ s) e)) [
      | inl p ↦ inl (p.0, ap (λ (t : List ℕ). q ∷ t) p.1 ∙ ap (λ (h : ℕ). h ∷ (l ++ p.0)) (sym head), p.2)
      | inr p ↦ inr (p.0, p.1, ap (λ (t : List ℕ). a ∷ t) p.2 ∙ ap (λ (h : ℕ). h ∷ (y ++ p.0)) head)
    ]

-- a length that is cut off
cut_length : (y z : List ℕ) (n : ℕ) → 0 < length z → IsLength (y ++ z) n → length_at y ≡ Err Truncated
unfolding length_at long_1 long_2 long_3 long_4
cut_length [] z n some h = refl
cut_length (q ∷ []) [] n some h = absurd (omega arith)
cut_length (q ∷ []) (a ∷ []) n some h = rw h.0 refl
cut_length (q ∷ []) (a ∷ b ∷ []) n some h = rw h.0 refl
cut_length (q ∷ []) (a ∷ b ∷ c ∷ []) n some h = rw h.0 refl
cut_length (q ∷ []) (a ∷ b ∷ c ∷ d ∷ []) n some h = rw h.0 refl
cut_length (q ∷ []) (a ∷ b ∷ c ∷ d ∷ e ∷ s) n some h = absurd h
cut_length (q ∷ a ∷ []) [] n some h = absurd (omega arith)
cut_length (q ∷ a ∷ []) (b ∷ []) n some h = rw h.0 refl
cut_length (q ∷ a ∷ []) (b ∷ c ∷ []) n some h = rw h.0 refl
cut_length (q ∷ a ∷ []) (b ∷ c ∷ d ∷ []) n some h = rw h.0 refl
cut_length (q ∷ a ∷ []) (b ∷ c ∷ d ∷ e ∷ s) n some h = absurd h
cut_length (q ∷ a ∷ b ∷ []) [] n some h = absurd (omega arith)
cut_length (q ∷ a ∷ b ∷ []) (c ∷ []) n some h = rw h.0 refl
cut_length (q ∷ a ∷ b ∷ []) (c ∷ d ∷ []) n some h = rw h.0 refl
cut_length (q ∷ a ∷ b ∷ []) (c ∷ d ∷ e ∷ s) n some h = absurd h
cut_length (q ∷ a ∷ b ∷ c ∷ []) [] n some h = absurd (omega arith)
cut_length (q ∷ a ∷ b ∷ c ∷ []) (d ∷ []) n some h = rw h.0 refl
cut_length (q ∷ a ∷ b ∷ c ∷ []) (d ∷ e ∷ s) n some h = absurd h
cut_length (q ∷ a ∷ b ∷ c ∷ d ∷ []) [] n some h = absurd (omega arith)
cut_length (q ∷ a ∷ b ∷ c ∷ d ∷ []) (e ∷ s) n some h = absurd h
cut_length (q ∷ a ∷ b ∷ c ∷ d ∷ e ∷ y) z n some h = absurd h

abbrev cut_behind : ℕ → Result (ℕ × List ℕ) DerFault → Result (ℕ × List ℕ × List ℕ) DerFault
cut_behind tag r = r >>= λ n. cut_at tag n.0 n.1

cut_content : (tag : ℕ) (c d s : List ℕ) → 0 < length s → c ≡ d ++ s → cut_at tag (length c) d ≡ Err Truncated
cut_content tag c d s some e =
    let size = ap length e ∙ length-append d s in
    rw (lt-ltb (length d) (length c) (omega (arith, size, some))) refl

behind_tag : (tag : ℕ) (l c y s : List ℕ) → IsLength l (length c) → 0 < length s → l ++ c ≡ y ++ s → cut_behind tag (length_at y) ≡ Err Truncated
behind_tag tag l c y s size some e =
    elim (split l c y s e) [
      | inl p ↦ ap (λ (t : List ℕ). cut_behind tag (length_at t)) p.1 ∙ ap (cut_behind tag) (length_again l (length c) p.0 size) ∙ cut_content tag c p.0 s some p.2
      | inr p ↦ ap (cut_behind tag) (cut_length y p.0 (length c) p.1 (subst (λ (t : List ℕ). IsLength t (length c)) p.2 size))
    ]

pub beginnings_are_truncated : BeginningsAreTruncated
unfolding element_at
beginnings_are_truncated t c x [] s tlv some e = refl
beginnings_are_truncated t c x (q ∷ y) s tlv some e =
    let both : t ∷ (tlv.size ++ c) ≡ q ∷ (y ++ s) = sym tlv.text ∙ e in
    let head = same_head t q (tlv.size ++ c) (y ++ s) both in
    ap (λ (h : ℕ). element_at (h ∷ y)) (sym head) ∙ in_front t y tlv.short
    ∙ behind_tag t tlv.size c y s tlv.definite some (same_tail t q (tlv.size ++ c) (y ++ s) both)
