-- The bytes that are read are an element, and each element can be read.
use Rattle.std.proofs.Common.{◌≡◌, ◌<◌, ◌≤◌, ◌+◌, ◌*◌, ◌%◌, ℕ, suc, Bool, true, false, cond, eqb, ltb, List, [], ◌∷◌, ◌++◌, length, take, drop, Result, Ok, Err, refl, sym, ap, subst, ◌∙◌, ◌⊎◌, inl, inr, append_assoc, arith}
use Rattle.std.proofs.lemmas.Bool.{ltb-false, ltb-true, le-ltb, lt-ltb, eqb-true, eqb-false, ne_eqb}
use Rattle.std.proofs.lemmas.List.{take-append-drop, length-take-le, length-append}
use Rattle.std.proofs.Math.Seq.{take-append_seam, drop-append_seam}
use Rattle.ct_promise.specs.declared.der_fault.DerFault.{DerFault}
use Rattle.ct_promise.specs.declared.der_fault.DerFault.TheVariants.{Truncated, LongTag, IndefiniteLength, LongLength, PaddedLength}
use Rattle.ct_promise.specs.Element.{IsLength, IsTlv}
use Rattle.ct_promise.specs.DerReading.{◌>>=◌, minimal, long_1, long_2, long_3, long_4, length_at, cut_at, element_at}
use Rattle.ct_promise.specs.DerLaws.{IsBytes, ReadElementsAreThere, ElementsAreRead, ElementsStandApart}

-- the value of a step that did not fail
pub bind_ok : {A B F : Type 0} (r : Result A F) (f : A → Result B F) (y : B) → (r >>= f) ≡ Ok y → (x : A) × (r ≡ Ok x) × (f x ≡ Ok y)
bind_ok (Ok x) f y e = (x, refl, e)
bind_ok (Err d) f y e = absurd cc

done : {A : Type 0} → A → Result A DerFault
done x = Ok x

pub ok_is : {A : Type 0} (x y : A) (r : Result A DerFault) → r ≡ Ok x → r ≡ Ok y → x ≡ y
ok_is x y r p q = cc

-- a test that did not fail
pub guard_ok : {A : Type 0} (b : Bool) (d : DerFault) (x y : A) → cond b (Err d) (Ok x) ≡ Ok y → (b ≡ false) × (x ≡ y)
guard_ok true d x y e = absurd cc
guard_ok false d x y e = (refl, cc)

pub passed : {A : Type 0} (b : Bool) (d : DerFault) (r : Result A DerFault) (y : A) → cond b (Err d) r ≡ Ok y → (b ≡ false) × (r ≡ Ok y)
passed true d r y e = absurd cc
passed false d r y e = (refl, e)

pub chosen : {A : Type 0} (b : Bool) (p q : Result A DerFault) (y : A) → cond b p q ≡ Ok y → ((b ≡ true) × (p ≡ Ok y)) ⊎ ((b ≡ false) × (q ≡ Ok y))
chosen true p q y e = inl (refl, e)
chosen false p q y e = inr (refl, e)

not_failed : {A B : Type 0} (d : DerFault) (y : A) → (r : Result A DerFault) → r ≡ Err d → r ≡ Ok y → B
not_failed d y r p q = absurd cc

-- ---- lengths

-- the result for the bytes after a first byte h
abbrev Long : ℕ → List ℕ → ℕ → List ℕ → Type 0
Long h b n r = (l : List ℕ) × IsLength l n × (h ∷ b ≡ l ++ r)

minimal_ok : (least k n : ℕ) (b r : List ℕ) → minimal least k b ≡ Ok (n, r) → (least ≤ k) × (n ≡ k) × (b ≡ r)
minimal_ok least k n b r e =
    let g = guard_ok (ltb k least) PaddedLength (k, b) (n, r) e in
    (ltb-false k least g.0, sym (ap (λ (p : ℕ × List ℕ). p.0) g.1), ap (λ (p : ℕ × List ℕ). p.1) g.1)

takes_1 : (h : ℕ) (b : List ℕ) (n : ℕ) (r : List ℕ) → h ≡ 129 → IsBytes b → long_1 b ≡ Ok (n, r) → Long h b n r
unfolding long_1
takes_1 h [] n r k fits e = absurd cc
takes_1 h (a ∷ b) n r k fits e =
    let m = minimal_ok 128 a n b r e in
    (h ∷ a ∷ [], (k, fits 0, omega (arith, m.0, m.1), m.1), ap (λ (t : List ℕ). h ∷ a ∷ t) m.2)

takes_2 : (h : ℕ) (b : List ℕ) (n : ℕ) (r : List ℕ) → h ≡ 130 → IsBytes b → long_2 b ≡ Ok (n, r) → Long h b n r
unfolding long_2
takes_2 h [] n r k fits e = absurd cc
takes_2 h (a ∷ []) n r k fits e = absurd cc
takes_2 h (a ∷ c ∷ b) n r k fits e =
    let m = minimal_ok 256 (a * 256 + c) n b r e in
    (h ∷ a ∷ c ∷ [], (k, fits 0, fits 1, omega (arith, m.0, m.1), m.1), ap (λ (t : List ℕ). h ∷ a ∷ c ∷ t) m.2)

takes_3 : (h : ℕ) (b : List ℕ) (n : ℕ) (r : List ℕ) → h ≡ 131 → IsBytes b → long_3 b ≡ Ok (n, r) → Long h b n r
unfolding long_3
takes_3 h [] n r k fits e = absurd cc
takes_3 h (a ∷ []) n r k fits e = absurd cc
takes_3 h (a ∷ c ∷ []) n r k fits e = absurd cc
takes_3 h (a ∷ c ∷ d ∷ b) n r k fits e =
    let m = minimal_ok 65536 (a * 65536 + c * 256 + d) n b r e in
    (h ∷ a ∷ c ∷ d ∷ [], (k, fits 0, fits 1, fits 2, omega (arith, m.0, m.1), m.1), ap (λ (t : List ℕ). h ∷ a ∷ c ∷ d ∷ t) m.2)

takes_4 : (h : ℕ) (b : List ℕ) (n : ℕ) (r : List ℕ) → h ≡ 132 → IsBytes b → long_4 b ≡ Ok (n, r) → Long h b n r
unfolding long_4
takes_4 h [] n r k fits e = absurd cc
takes_4 h (a ∷ []) n r k fits e = absurd cc
takes_4 h (a ∷ c ∷ []) n r k fits e = absurd cc
takes_4 h (a ∷ c ∷ d ∷ []) n r k fits e = absurd cc
takes_4 h (a ∷ c ∷ d ∷ f ∷ b) n r k fits e =
    let m = minimal_ok 16777216 (a * 16777216 + c * 65536 + d * 256 + f) n b r e in
    (h ∷ a ∷ c ∷ d ∷ f ∷ [], (k, fits 0, fits 1, fits 2, fits 3, omega (arith, m.0, m.1), m.1), ap (λ (t : List ℕ). h ∷ a ∷ c ∷ d ∷ f ∷ t) m.2)

IsBytes-rest : (b : ℕ) (bytes : List ℕ) → IsBytes (b ∷ bytes) → IsBytes bytes
IsBytes-rest b bytes h i = h (suc i)

length_takes : (b : List ℕ) (n : ℕ) (r : List ℕ) → IsBytes b → length_at b ≡ Ok (n, r) → (l : List ℕ) × IsLength l n × (b ≡ l ++ r)
unfolding length_at
length_takes [] n r fits e = absurd cc
length_takes (h ∷ b) n r fits e =
    let rest = IsBytes-rest h b fits in
    let in_132 : Result (ℕ × List ℕ) DerFault = cond (eqb h 132) (long_4 b) (Err LongLength) in
    let in_131 : Result (ℕ × List ℕ) DerFault = cond (eqb h 131) (long_3 b) in_132 in
    let in_130 : Result (ℕ × List ℕ) DerFault = cond (eqb h 130) (long_2 b) in_131 in
    let in_129 : Result (ℕ × List ℕ) DerFault = cond (eqb h 129) (long_1 b) in_130 in
    let in_128 : Result (ℕ × List ℕ) DerFault = cond (eqb h 128) (Err IndefiniteLength) in_129 in
    elim (chosen (ltb h 128) (Ok (h, b)) in_128 (n, r) e) [
      | inl p ↦ (let same = ok_is (h, b) (n, r) (Ok (h, b)) refl p.1 in
          (h ∷ [], (ltb-true h 128 p.0, sym (ap (λ (p : ℕ × List ℕ). p.0) same)), ap (λ (p : ℕ × List ℕ). h ∷ p.1) same))
      | inr p ↦ (let q = passed (eqb h 128) IndefiniteLength in_129 (n, r) p.1 in
          elim (chosen (eqb h 129) (long_1 b) in_130 (n, r) q.1) [
            | inl x ↦ takes_1 h b n r (eqb-true h 129 x.0) rest x.1
            | inr x ↦ elim (chosen (eqb h 130) (long_2 b) in_131 (n, r) x.1) [
              | inl y ↦ takes_2 h b n r (eqb-true h 130 y.0) rest y.1
              | inr y ↦ elim (chosen (eqb h 131) (long_3 b) in_132 (n, r) y.1) [
                | inl z ↦ takes_3 h b n r (eqb-true h 131 z.0) rest z.1
                | inr z ↦ elim (chosen (eqb h 132) (long_4 b) (Err LongLength) (n, r) z.1) [
                  | inl w ↦ takes_4 h b n r (eqb-true h 132 w.0) rest w.1
                  | inr w ↦ not_failed LongLength (n, r) (Err LongLength) refl w.1
                ]
              ]
            ]
          ])
    ]

pub length_again : (l : List ℕ) (n : ℕ) (r : List ℕ) → IsLength l n → length_at (l ++ r) ≡ Ok (n, r)
unfolding length_at long_1 long_2 long_3 long_4
length_again [] n r h = absurd h
length_again (a ∷ []) n r h = rw (lt-ltb a 128 h.0) (ap (λ (k : ℕ). Ok (k, r)) (sym h.1))
length_again (x ∷ a ∷ []) n r h = rw (h.0, le-ltb a 128 (omega (arith, h.2, h.3)), h.3) refl
length_again (x ∷ a ∷ b ∷ []) n r h = rw (h.0, le-ltb (a * 256 + b) 256 (omega (arith, h.3, h.4)), h.4) refl
length_again (x ∷ a ∷ b ∷ c ∷ []) n r h = rw (h.0, le-ltb (a * 65536 + b * 256 + c) 65536 (omega (arith, h.4, h.5)), h.5) refl
length_again (x ∷ a ∷ b ∷ c ∷ d ∷ []) n r h =
    rw (h.0, le-ltb (a * 16777216 + b * 65536 + c * 256 + d) 16777216 (omega (arith, h.5, h.6)), h.6) refl
length_again (x ∷ a ∷ b ∷ c ∷ d ∷ e ∷ s) n r h = absurd h

-- ---- elements

pub read_elements_are_there : ReadElementsAreThere
unfolding element_at
read_elements_are_there [] c r tag fits e = absurd cc
read_elements_are_there (t ∷ b) c r tag fits e =
    let g = passed (eqb (t % 32) 31) LongTag (length_at b >>= λ n. cut_at t n.0 n.1) (tag, c, r) e in
    let a = bind_ok (length_at b) (λ n. cut_at t n.0 n.1) (tag, c, r) g.1 in
    let n = a.0.0 in
    let s = a.0.1 in
    let cut = guard_ok (ltb (length s) n) Truncated (t, take n s, drop n s) (tag, c, r) a.2 in
    let long : n ≤ length s = ltb-false (length s) n cut.0 in
    let l = length_takes b n s (IsBytes-rest t b fits) a.1 in
    let size : IsLength l.0 (length (take n s)) = subst (λ (k : ℕ). IsLength l.0 k) (sym (length-take-le n s long)) l.1 in
    let other = eqb-false (t % 32) 31 g.0 in
    let low : t % 32 < 31 = omega (arith, other) in
    let whole : t ∷ b ≡ (t ∷ (l.0 ++ take n s)) ++ drop n s =
    ap (λ (y : List ℕ). t ∷ y) (l.2 ∙ ap (λ (y : List ℕ). l.0 ++ y) (sym (take-append-drop n s)) ∙ sym (append_assoc l.0 (take n s) (drop n s))) in
    subst (λ (v : ℕ × List ℕ × List ℕ). (x : List ℕ) × IsTlv v.0 v.1 x × (t ∷ b ≡ x ++ v.2)) cut.1
    (t ∷ (l.0 ++ take n s), record { size = l.0; byte = fits 0; short = low; definite = size; text = refl }, whole)

whole_cut : (tag : ℕ) (c r : List ℕ) → cut_at tag (length c) (c ++ r) ≡ Ok (tag, c, r)
whole_cut tag c r =
    let size = length-append c r in
    rw (le-ltb (length (c ++ r)) (length c) (omega (arith, size)), take-append_seam c r, drop-append_seam c r) refl

pub in_front : (tag : ℕ) (s : List ℕ) → tag % 32 < 31 → element_at (tag ∷ s) ≡ (length_at s >>= λ n. cut_at tag n.0 n.1)
unfolding element_at
in_front tag s low = rw (ne_eqb (tag % 32) 31 (λ e. absurd (omega (arith, low, e)))) refl

pub elements_are_read : ElementsAreRead
elements_are_read tag c x r tlv =
    ap (λ (y : List ℕ). element_at (y ++ r)) tlv.text
    ∙ in_front tag ((tlv.size ++ c) ++ r) tlv.short
    ∙ ap (λ (y : List ℕ). length_at y >>= λ n. cut_at tag n.0 n.1) (append_assoc tlv.size c r)
    ∙ ap (λ (v : Result (ℕ × List ℕ) DerFault). v >>= λ n. cut_at tag n.0 n.1) (length_again tlv.size (length c) (c ++ r) tlv.definite)
    ∙ whole_cut tag c r

pub elements_stand_apart : ElementsStandApart
elements_stand_apart t u c d x y r s p q e =
    let same = ok_is (t, c, r) (u, d, s) (element_at (x ++ r)) (elements_are_read t c x r p) (ap element_at e ∙ elements_are_read u d y s q) in
    (ap (λ (v : ℕ × List ℕ × List ℕ). v.0) same, ap (λ (v : ℕ × List ℕ × List ℕ). v.1) same, ap (λ (v : ℕ × List ℕ × List ℕ). v.2) same)
