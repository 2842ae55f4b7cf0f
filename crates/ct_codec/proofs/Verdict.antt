-- Each input has at most one fault. Leaves and chains are read by functions on lists, and each fault and each text determines what these
-- functions return.
use Rattle.std.proofs.Common.{◌≡◌, ◌<◌, ◌≤◌, ◌^◌, ◌+◌, ℕ, zero, suc, List, [], ◌∷◌, ◌++◌, length, take, drop, cond, nat_lt, Result, Ok, Err, ◌⊎◌, inl, inr}
use Rattle.std.proofs.Common.{refl, sym, ap, ◌∙◌, arith, length-append, append_assoc, append-nil}
use Rattle.std.proofs.lemmas.Bool.{lt-ltb, le-ltb}
use Rattle.std.proofs.Math.Seq.{drop-append_seam, take-append_seam}
use Rattle.std.specs.List.{AllByRecursion}
use Rattle.byteorder.specs.Endian.{big_from}
use Rattle.byteorder.specs.Numbers.{big_number-reads_back}
use Rattle.ct_codec.specs.Bytes.{num, vec}
use Rattle.ct_codec.specs.Leaf.{SignedEntry, certificate, precertificate, IsEntry, IsCertificate, LeafText, ChainText, PreChainText, chain_text, entry_text}
use Rattle.ct_codec.specs.Leaf.{leaf_text, chain_bytes, entry_fields, leaf_fields, entry_front}
use Rattle.ct_codec.specs.Faults.{IsCut, VectorFaulty, LeafFaulty, CertificatesFaulty, WithinFaulty, ChainFaulty, PreChainFaulty}
use Rattle.ct_codec.specs.Laws.{LeavesHaveOneFault, LeafTextsHaveNoFault, ChainsHaveOneFault, ChainTextsHaveNoFault, PreChainsHaveOneFault}
use Rattle.ct_codec.specs.Laws.{PreChainTextsHaveNoFault}
use Rattle.ct_codec.specs.declared.fault.DecodeFault.{DecodeFault}
use Rattle.ct_codec.specs.declared.fault.DecodeFault.TheVariants.{Truncated, BadVersion, BadLeafType, BadEntryType, EmptyVector, Trailing, Memory}
use Rattle.ct_codec.proofs.Refusals.{length-num, length-vec}
use Rattle.ct_codec.proofs.Apart.{regrouped}

-- the bytes after a field, or the fault
abbrev pub Read : Type 0
Read = Result (List ℕ) DecodeFault

abbrev pub then_read : Read → (List ℕ → Read) → Read
then_read (Ok r) k = k r
then_read (Err f) k = Err f

abbrev pub bytes_at : ℕ → List ℕ → Read
bytes_at n b = cond (nat_lt (length b) n) (Err Truncated) (Ok (drop n b))

abbrev pub number_at : ℕ → List ℕ → (ℕ → List ℕ → Read) → Read
number_at w b k = cond (nat_lt (length b) w) (Err Truncated) (k (big_from 0 w b) (drop w b))

abbrev pub zero_at : DecodeFault → List ℕ → Read
zero_at f [] = Err Truncated
zero_at f (zero ∷ r) = Ok r
zero_at f (suc n ∷ r) = Err f

abbrev pub certificate_of : ℕ → List ℕ → Read
certificate_of zero r = Err EmptyVector
certificate_of (suc n) r = bytes_at (suc n) r

abbrev pub certificate_at : List ℕ → Read
certificate_at b = number_at 3 b certificate_of

abbrev pub entry_of : ℕ → List ℕ → Read
entry_of zero r = certificate_at r
entry_of (suc zero) r = then_read (bytes_at 32 r) certificate_at
entry_of (suc (suc n)) r = Err BadEntryType

abbrev pub entry_at : List ℕ → Read
entry_at b = number_at 2 b entry_of

abbrev pub end_at : List ℕ → Read
end_at [] = Ok []
end_at (x ∷ r) = Err Trailing

abbrev pub extensions_at : List ℕ → Read
extensions_at b = then_read (number_at 2 b bytes_at) end_at

abbrev pub after_time : List ℕ → Read
after_time b = then_read (entry_at b) extensions_at

abbrev pub after_types : List ℕ → Read
after_types b = then_read (bytes_at 8 b) after_time

abbrev pub leaf_read : List ℕ → Read
leaf_read b = then_read (zero_at BadVersion b) (λ r. then_read (zero_at BadLeafType r) after_types)

-- the fault of a text is Memory, the only fault that can occur for it
abbrev pub fault_of : Read → DecodeFault
fault_of (Ok r) = Memory
fault_of (Err f) = f

-- fields that are whole

pub bytes_here : (n : ℕ) (x r b : List ℕ) → length x ≡ n → b ≡ x ++ r → bytes_at n b ≡ Ok r
bytes_here n x r b l e =
    let size : length b ≡ length x + length r = ap length e ∙ length-append x r in
    let long : n ≤ length b = omega (arith, size, l) in
    rw (le-ltb (length b) n long) (ap Ok (rw (e, ← l) (drop-append_seam x r)))

pub bytes_short : (n : ℕ) (b : List ℕ) → length b < n → bytes_at n b ≡ Err Truncated
bytes_short n b h = rw (lt-ltb (length b) n h) refl

pub number_here : (w n : ℕ) (r b : List ℕ) (k : ℕ → List ℕ → Read) → n < 256 ^ w → b ≡ num w n ++ r → number_at w b k ≡ k n r
unfolding num
number_here w n r b k h e =
    let size : length b ≡ w + length r = ap length e ∙ length-append (num w n) r ∙ ap (λ m. m + length r) (length-num w n) in
    let long : w ≤ length b = omega (arith, size) in
    let value : big_from 0 w b ≡ n = ap (big_from 0 w) e ∙ big_number-reads_back w n r h in
    let rest : drop w b ≡ r = ap (drop w) e ∙ ap (λ m. drop m (num w n ++ r)) (sym (length-num w n)) ∙ drop-append_seam (num w n) r in
    rw (le-ltb (length b) w long, value, rest) refl

pub number_short : (w : ℕ) (b : List ℕ) (k : ℕ → List ℕ → Read) → length b < w → number_at w b k ≡ Err Truncated
number_short w b k h = rw (lt-ltb (length b) w h) refl

some_certificate : (n : ℕ) (r : List ℕ) → 0 < n → certificate_of n r ≡ bytes_at n r
some_certificate zero r h = absurd (omega arith)
some_certificate (suc n) r h = refl

pub certificate_here : (c r b : List ℕ) → IsCertificate c → b ≡ vec 3 c ++ r → certificate_at b ≡ Ok r
certificate_here c r b h e =
    number_here 3 (length c) (c ++ r) b certificate_of h.1 (e ∙ append_assoc (num 3 (length c)) c r) ∙ some_certificate (length c) (c ++ r) h.0
    ∙ bytes_here (length c) c r (c ++ r) refl refl

pub certificate_empty : (r b : List ℕ) → b ≡ num 3 0 ++ r → certificate_at b ≡ Err EmptyVector
certificate_empty r b e = number_here 3 0 r b certificate_of (omega arith) e

pub entry_here : (e : SignedEntry) (r b : List ℕ) → IsEntry e → b ≡ entry_text e ++ r → entry_at b ≡ Ok r
entry_here (certificate c) r b h e =
    number_here 2 0 (vec 3 c ++ r) b entry_of (omega arith) (e ∙ append_assoc (num 2 0) (vec 3 c) r) ∙ certificate_here c r (vec 3 c ++ r) h refl
entry_here (precertificate k c) r b h e =
    number_here 2 1 ((k ++ vec 3 c) ++ r) b entry_of (omega arith) (e ∙ append_assoc (num 2 1) (k ++ vec 3 c) r)
    ∙ ap (λ x. then_read x certificate_at) (bytes_here 32 k (vec 3 c ++ r) ((k ++ vec 3 c) ++ r) h.0 (append_assoc k (vec 3 c) r))
    ∙ certificate_here c r (vec 3 c ++ r) h.1 refl

pub entry_empty : (e : SignedEntry) (r b : List ℕ) → IsEntry e → b ≡ entry_front e ++ (num 3 0 ++ r) → entry_at b ≡ Err EmptyVector
entry_empty (certificate c) r b h e = number_here 2 0 (num 3 0 ++ r) b entry_of (omega arith) e ∙ certificate_empty r (num 3 0 ++ r) refl
entry_empty (precertificate k c) r b h e =
    number_here 2 1 (k ++ (num 3 0 ++ r)) b entry_of (omega arith) (e ∙ append_assoc (num 2 1) k (num 3 0 ++ r))
    ∙ ap (λ x. then_read x certificate_at) (bytes_here 32 k (num 3 0 ++ r) (k ++ (num 3 0 ++ r)) h.0 refl) ∙ certificate_empty r (num 3 0 ++ r) refl

pub other_entry : (n : ℕ) (r : List ℕ) → 1 < n → entry_of n r ≡ Err BadEntryType
other_entry zero r h = absurd (omega arith)
other_entry (suc zero) r h = absurd (omega arith)
other_entry (suc (suc n)) r h = refl

other_zero : (f : DecodeFault) (n : ℕ) (r : List ℕ) → 0 < n → zero_at f (n ∷ r) ≡ Err f
other_zero f zero r h = absurd (omega arith)
other_zero f (suc n) r h = refl

time_here : (t : ℕ) (s : List ℕ) → after_types (num 8 t ++ s) ≡ after_time s
time_here t s = ap (λ x. then_read x after_time) (bytes_here 8 (num 8 t) s (num 8 t ++ s) (length-num 8 t) refl)

-- a cut in the fields that are read, or after them
abbrev pub Cut : List (List ℕ) → Read → Type 0
Cut gs res = (res ≡ Err Truncated) ⊎ ((s : List ℕ) × (res ≡ Ok s) × IsCut gs s)

pub cut_same : (gs : List (List ℕ)) (x y : Read) → x ≡ y → Cut gs y → Cut gs x
cut_same gs x y e (inl h) = inl (e ∙ h)
cut_same gs x y e (inr v) = inr (v.0, e ∙ v.1, v.2)

pub then_cut : (x : Read) (k : List ℕ → Read) (gs hs : List (List ℕ)) → Cut gs x → ((s : List ℕ) → IsCut gs s → Cut hs (k s)) → Cut hs (then_read x k)
then_cut x k gs hs (inl h) f = inl (ap (λ y. then_read y k) h)
then_cut x k gs hs (inr v) f = cut_same hs (then_read x k) (k v.0) (ap (λ y. then_read y k) v.1) (f v.0 v.2)

pub bytes_cut : (n : ℕ) (x : List ℕ) (gs : List (List ℕ)) (r : List ℕ) → length x ≡ n → IsCut (x ∷ gs) r → Cut gs (bytes_at n r)
bytes_cut n x gs r l (inl h) = inl (bytes_short n r (rw (← l) h))
bytes_cut n x gs r l (inr v) = inr (v.0, bytes_here n x v.0 r l v.1, v.2)

pub number_cut : (w n : ℕ) (gs hs : List (List ℕ)) (b : List ℕ) (k : ℕ → List ℕ → Read) → n < 256 ^ w → IsCut (num w n ∷ gs) b
    → ((s : List ℕ) → IsCut gs s → Cut hs (k n s)) → Cut hs (number_at w b k)
number_cut w n gs hs b k h (inl s) f = inl (number_short w b k (rw (← length-num w n) s))
number_cut w n gs hs b k h (inr v) f = cut_same hs (number_at w b k) (k n v.0) (number_here w n v.0 b k h v.1) (f v.0 v.2)

zero_cut : (f : DecodeFault) (gs : List (List ℕ)) (b : List ℕ) → IsCut ((0 ∷ []) ∷ gs) b → Cut gs (zero_at f b)
zero_cut f gs [] v = inl refl
zero_cut f gs (x ∷ b) (inl h) = absurd (omega arith)
zero_cut f gs (x ∷ b) (inr v) = inr (v.0, ap (zero_at f) v.1, v.2)

pub certificate_cut : (c : List ℕ) (gs : List (List ℕ)) (r : List ℕ) → IsCertificate c → IsCut (num 3 (length c) ∷ c ∷ gs) r → Cut gs (certificate_at r)
certificate_cut c gs r h v =
    number_cut 3 (length c) (c ∷ gs) gs r certificate_of h.1 v
    (λ s cut. cut_same gs (certificate_of (length c) s) (bytes_at (length c) s) (some_certificate (length c) s h.0) (bytes_cut (length c) c gs s refl cut))

pub vector_cut : (w : ℕ) (x : List ℕ) (gs : List (List ℕ)) (r : List ℕ) → length x < 256 ^ w → IsCut (num w (length x) ∷ x ∷ gs) r → Cut gs (number_at w r bytes_at)
vector_cut w x gs r h v = number_cut w (length x) (x ∷ gs) gs r bytes_at h v (λ s cut. bytes_cut (length x) x gs s refl cut)

pub entry_cut : (e : SignedEntry) (gs : List (List ℕ)) (r : List ℕ) → IsEntry e → IsCut (entry_fields e ++ gs) r → Cut gs (entry_at r)
entry_cut (certificate c) gs r h v = number_cut 2 0 (num 3 (length c) ∷ c ∷ gs) gs r entry_of (omega arith) v (λ s cut. certificate_cut c gs s h cut)
entry_cut (precertificate k c) gs r h v =
    number_cut 2 1 (k ∷ num 3 (length c) ∷ c ∷ gs) gs r entry_of (omega arith) v (λ s cut.
    then_cut (bytes_at 32 s) certificate_at (num 3 (length c) ∷ c ∷ gs) gs (bytes_cut 32 k (num 3 (length c) ∷ c ∷ gs) s h.0 cut)
    (λ u rest. certificate_cut c gs u h.1 rest))

pub cut_at_last : (x : Read) → Cut [] x → x ≡ Err Truncated
cut_at_last x (inl h) = h
cut_at_last x (inr v) = absurd v.2

cut_behind_entry : (x s : List ℕ) → length x < 2 ^ 16 → IsCut (num 2 (length x) ∷ x ∷ []) s → Cut [] (extensions_at s)
cut_behind_entry x s short v = then_cut (number_at 2 s bytes_at) end_at [] [] (vector_cut 2 x [] s short v) (λ u none. absurd none)

cut_behind_time : (e : SignedEntry) (x s : List ℕ) → IsEntry e → length x < 2 ^ 16
    → IsCut (entry_fields e ++ (num 2 (length x) ∷ x ∷ [])) s → Cut [] (after_time s)
cut_behind_time e x s fine short v =
    let end : List (List ℕ) = num 2 (length x) ∷ x ∷ [] in
    then_cut (entry_at s) extensions_at end [] (entry_cut e end s fine v) (λ u cut. cut_behind_entry x u short cut)

cut_behind_types : (t : ℕ) (e : SignedEntry) (x s : List ℕ) → IsEntry e → length x < 2 ^ 16
    → IsCut (num 8 t ∷ (entry_fields e ++ (num 2 (length x) ∷ x ∷ []))) s → Cut [] (after_types s)
cut_behind_types t e x s fine short v =
    let end : List (List ℕ) = entry_fields e ++ (num 2 (length x) ∷ x ∷ []) in
    then_cut (bytes_at 8 s) after_time end [] (bytes_cut 8 (num 8 t) end s (length-num 8 t) v) (λ u cut. cut_behind_time e x u fine short cut)

leaf_cut : (t : ℕ) (e : SignedEntry) (x b : List ℕ) → IsEntry e → length x < 2 ^ 16 → IsCut (leaf_fields t e x) b → leaf_read b ≡ Err Truncated
leaf_cut t e x b fine short v =
    let end : List (List ℕ) = num 8 t ∷ (entry_fields e ++ (num 2 (length x) ∷ x ∷ [])) in
    cut_at_last (leaf_read b) (then_cut (zero_at BadVersion b) (λ r. then_read (zero_at BadLeafType r) after_types) ((0 ∷ []) ∷ end) []
    (zero_cut BadVersion ((0 ∷ []) ∷ end) b v) (λ s rest.
    then_cut (zero_at BadLeafType s) after_types end [] (zero_cut BadLeafType end s rest) (λ u cut. cut_behind_types t e x u fine short cut)))

leaf_here : (t : ℕ) (e : SignedEntry) (x b r : List ℕ) → IsEntry e → length x < 2 ^ 16 → b ≡ leaf_text t e x ++ r → leaf_read b ≡ end_at r
leaf_here t e x b r fine short same =
    ap leaf_read (same ∙ regrouped t e x r) ∙ time_here t (entry_text e ++ (vec 2 x ++ r))
    ∙ ap (λ y. then_read y extensions_at) (entry_here e (vec 2 x ++ r) (entry_text e ++ (vec 2 x ++ r)) fine refl)
    ∙ ap (λ y. then_read y end_at) (number_here 2 (length x) (x ++ r) (vec 2 x ++ r) bytes_at short (append_assoc (num 2 (length x)) x r)
    ∙ bytes_here (length x) x r (x ++ r) refl refl)

trailing_here : (r : List ℕ) → 0 < length r → end_at r ≡ Err Trailing
trailing_here [] h = absurd (omega arith)
trailing_here (x ∷ r) h = refl

text_read : (t : ℕ) (e : SignedEntry) (x b : List ℕ) → LeafText t e x b → leaf_read b ≡ Ok []
text_read t e x b p = leaf_here t e x b [] p.entry p.extensions (p.text ∙ sym (append-nil (leaf_text t e x)))

-- each fault of a leaf is the fault that reading finds
leaf_verdict : (f : DecodeFault) (b : List ℕ) → LeafFaulty f b → fault_of (leaf_read b) ≡ f
leaf_verdict Truncated b v = ap fault_of (leaf_cut v.0 v.1 v.2 b v.4 v.5 v.6)
leaf_verdict BadVersion b v = ap (λ s. fault_of (leaf_read s)) v.3
    ∙ ap (λ y. fault_of (then_read y (λ r. then_read (zero_at BadLeafType r) after_types))) (other_zero BadVersion v.0 v.1 v.2)
leaf_verdict BadLeafType b v = ap (λ s. fault_of (leaf_read s)) v.3 ∙ ap (λ y. fault_of (then_read y after_types)) (other_zero BadLeafType v.0 v.1 v.2)
leaf_verdict BadEntryType b v =
    ap (λ s. fault_of (leaf_read s)) v.6 ∙ ap fault_of (time_here v.0 (num 2 v.1 ++ v.2))
    ∙ ap (λ y. fault_of (then_read y extensions_at)) (number_here 2 v.1 v.2 (num 2 v.1 ++ v.2) entry_of v.5 refl ∙ other_entry v.1 v.2 v.4)
leaf_verdict EmptyVector b v =
    ap (λ s. fault_of (leaf_read s)) v.5 ∙ ap fault_of (time_here v.0 (entry_front v.1 ++ (num 3 0 ++ v.2)))
    ∙ ap (λ y. fault_of (then_read y extensions_at)) (entry_empty v.1 v.2 (entry_front v.1 ++ (num 3 0 ++ v.2)) v.4 refl)
leaf_verdict Trailing b v =
    let p = v.5 in
    let same : b ≡ leaf_text v.0 v.1 v.2 ++ v.4 = v.7 ∙ ap (λ l. l ++ v.4) p.text in
    ap fault_of (leaf_here v.0 v.1 v.2 b v.4 p.entry p.extensions same ∙ trailing_here v.4 v.6)
leaf_verdict Memory b v = ap fault_of (text_read v.0 v.1 v.2 b v.3)

pub leaves_have_one_fault : LeavesHaveOneFault
leaves_have_one_fault f g b v w = sym (leaf_verdict f b v) ∙ leaf_verdict g b w

pub leaf_texts_have_no_fault : LeafTextsHaveNoFault
leaf_texts_have_no_fault t e x b f p v = sym (leaf_verdict f b v) ∙ ap fault_of (text_read t e x b p)

-- chains

-- certificates one after the other, at most n of them, to the end of the bytes
abbrev pub certificates_at : ℕ → List ℕ → Read
certificates_at n [] = Ok []
certificates_at zero (x ∷ y) = Err Truncated
certificates_at (suc n) (x ∷ y) = then_read (certificate_at (x ∷ y)) (certificates_at n)

abbrev pub chain_of : ℕ → List ℕ → Read
chain_of n r = cond (nat_lt (length r) n) (Err Truncated) (then_read (certificates_at n (take n r)) (λ _. end_at (drop n r)))

abbrev pub chain_read : List ℕ → Read
chain_read b = number_at 3 b chain_of

next_certificate : (n : ℕ) (y : List ℕ) → 0 < length y → certificates_at (suc n) y ≡ then_read (certificate_at y) (certificates_at n)
next_certificate n [] h = absurd (omega arith)
next_certificate n (x ∷ y) h = refl

-- the certificates are read, and the rest is read with room enough
passed_certificates : (cs : List (List ℕ)) (n : ℕ) (y s : List ℕ) → AllByRecursion IsCertificate cs → y ≡ chain_bytes cs ++ s → length y ≤ n → (m : ℕ)
    × (length s ≤ m) × (certificates_at n y ≡ certificates_at m s)
passed_certificates [] n y s all e h = (n, rw (← e) h, ap (certificates_at n) e)
passed_certificates (c ∷ cs) zero y s all e h =
    let size = ap length e ∙ length-append (vec 3 c ++ chain_bytes cs) s ∙ ap (λ k. k + length s) (length-append (vec 3 c) (chain_bytes cs)) in
    let front = length-vec 3 c in
    absurd (omega (arith, size, front))
passed_certificates (c ∷ cs) (suc n) y s all e h =
    let whole : y ≡ vec 3 c ++ (chain_bytes cs ++ s) = e ∙ append_assoc (vec 3 c) (chain_bytes cs) s in
    let size = ap length whole ∙ length-append (vec 3 c) (chain_bytes cs ++ s) in
    let front = length-vec 3 c in
    let rest = passed_certificates cs n (chain_bytes cs ++ s) s all.1 refl (omega (arith, size, front)) in
    let step = next_certificate n y (omega (arith, size, front))
    ∙ ap (λ x. then_read x (certificates_at n)) (certificate_here c (chain_bytes cs ++ s) y all.0 whole) in
    (rest.0, rest.1, step ∙ rest.2)

pub certificate_verdict : (f : DecodeFault) (s : List ℕ) → VectorFaulty f s → certificate_at s ≡ Err f
certificate_verdict Truncated s v = cut_at_last (certificate_at s) (certificate_cut v.0 [] s v.1 v.2)
certificate_verdict EmptyVector s v = certificate_empty v.0 s v.1
certificate_verdict BadVersion s v = absurd v
certificate_verdict BadLeafType s v = absurd v
certificate_verdict BadEntryType s v = absurd v
certificate_verdict Trailing s v = absurd v
certificate_verdict Memory s v = absurd v

faulty_certificates : (f : DecodeFault) (n : ℕ) (s : List ℕ) → 0 < length s → length s ≤ n → VectorFaulty f s → certificates_at n s ≡ Err f
faulty_certificates f zero s some h v = absurd (omega arith)
faulty_certificates f (suc n) s some h v = next_certificate n s some ∙ ap (λ x. then_read x (certificates_at n)) (certificate_verdict f s v)

certificates_verdict : (f : DecodeFault) (n : ℕ) (y : List ℕ) → length y ≤ n → CertificatesFaulty f y → certificates_at n y ≡ Err f
certificates_verdict f n y h v =
    let passed = passed_certificates v.0 n y v.1 v.2 v.4 h in
    passed.2 ∙ faulty_certificates f passed.0 v.1 v.3 passed.1 v.5

none_left : (m : ℕ) → certificates_at m [] ≡ Ok []
none_left zero = refl
none_left (suc m) = refl

certificates_whole : (n : ℕ) (cs : List (List ℕ)) (y : List ℕ) → length y ≤ n → AllByRecursion IsCertificate cs → y ≡ chain_bytes cs
    → certificates_at n y ≡ Ok []
certificates_whole n cs y h all e =
    let passed = passed_certificates cs n y [] all (e ∙ sym (append-nil (chain_bytes cs))) h in
    passed.2 ∙ none_left passed.0

chain_here : (y r b : List ℕ) → length y < 2 ^ 24 → b ≡ vec 3 y ++ r → chain_read b ≡ then_read (certificates_at (length y) y) (λ _. end_at r)
chain_here y r b h e =
    let size = length-append y r in
    let long : length y ≤ length (y ++ r) = omega (arith, size) in
    number_here 3 (length y) (y ++ r) b chain_of h (e ∙ append_assoc (num 3 (length y)) y r)
    ∙ rw (le-ltb (length (y ++ r)) (length y) long, take-append_seam y r, drop-append_seam y r) refl

chain_short : (n : ℕ) (r : List ℕ) → length r < n → chain_of n r ≡ Err Truncated
chain_short n r h = rw (lt-ltb (length r) n h) refl

content_cut : (y s : List ℕ) → IsCut (y ∷ []) s → Cut [] (chain_of (length y) s)
content_cut y s (inl h) = inl (chain_short (length y) s h)
content_cut y s (inr v) = absurd v.2

chain_cut : (y b : List ℕ) → length y < 2 ^ 24 → IsCut (num 3 (length y) ∷ y ∷ []) b → chain_read b ≡ Err Truncated
chain_cut y b h v = cut_at_last (chain_read b) (number_cut 3 (length y) (y ∷ []) [] b chain_of h v (content_cut y))

within_verdict : (f : DecodeFault) (b : List ℕ) → WithinFaulty f b → chain_read b ≡ Err f
within_verdict f b v = chain_here v.0 v.1 b v.2 v.3 ∙ ap (λ x. then_read x (λ _. end_at v.1)) (certificates_verdict f (length v.0) v.0 (omega arith) v.4)

chain_text_read : (cs : List (List ℕ)) (b a r : List ℕ) → ChainText cs a → b ≡ a ++ r → chain_read b ≡ end_at r
chain_text_read cs b a r p e =
    chain_here (chain_bytes cs) r b p.fits (e ∙ ap (λ l. l ++ r) p.text)
    ∙ ap (λ x. then_read x (λ _. end_at r)) (certificates_whole (length (chain_bytes cs)) cs (chain_bytes cs) (omega arith) p.certificates refl)

-- each fault of a chain is the fault that reading finds
chain_verdict : (f : DecodeFault) (b : List ℕ) → ChainFaulty f b → fault_of (chain_read b) ≡ f
chain_verdict Truncated b (inl v) = ap fault_of (chain_cut v.0 b v.1 v.2)
chain_verdict Truncated b (inr v) = ap fault_of (within_verdict Truncated b v)
chain_verdict EmptyVector b v = ap fault_of (within_verdict EmptyVector b v)
chain_verdict Trailing b v = ap fault_of (chain_text_read v.0 b v.1 v.2 v.3 v.5 ∙ trailing_here v.2 v.4)
chain_verdict Memory b v = ap fault_of (chain_text_read v.0 b b [] v.1 (sym (append-nil b)))
chain_verdict BadVersion b v = absurd v
chain_verdict BadLeafType b v = absurd v
chain_verdict BadEntryType b v = absurd v

pub chains_have_one_fault : ChainsHaveOneFault
chains_have_one_fault f g b v w = sym (chain_verdict f b v) ∙ chain_verdict g b w

pub chain_texts_have_no_fault : ChainTextsHaveNoFault
chain_texts_have_no_fault cs b f p v = sym (chain_verdict f b v) ∙ ap fault_of (chain_text_read cs b b [] p (sym (append-nil b)))

-- precertificates with their chains

abbrev pub pre_chain_read : List ℕ → Read
pre_chain_read b = then_read (certificate_at b) chain_read

-- each fault of a precertificate with its chain is the fault that reading finds
pre_chain_verdict : (f : DecodeFault) (b : List ℕ) → PreChainFaulty f b → fault_of (pre_chain_read b) ≡ f
pre_chain_verdict f b (inl v) = ap (λ x. fault_of (then_read x chain_read)) (certificate_verdict f b v)
pre_chain_verdict f b (inr v) = ap (λ x. fault_of (then_read x chain_read)) (certificate_here v.0 v.1 b v.2 v.3) ∙ chain_verdict f v.1 v.4

pre_chain_text_read : (c : List ℕ) (cs : List (List ℕ)) (b : List ℕ) → PreChainText c cs b → pre_chain_read b ≡ Ok []
pre_chain_text_read c cs b p =
    ap (λ x. then_read x chain_read) (certificate_here c (chain_text cs) b p.precertificate p.text)
    ∙ chain_text_read cs (chain_text cs) (chain_text cs) [] p.chain (sym (append-nil (chain_text cs)))

pub pre_chains_have_one_fault : PreChainsHaveOneFault
pre_chains_have_one_fault f g b v w = sym (pre_chain_verdict f b v) ∙ pre_chain_verdict g b w

pub pre_chain_texts_have_no_fault : PreChainTextsHaveNoFault
pre_chain_texts_have_no_fault c cs b f p v = sym (pre_chain_verdict f b v) ∙ ap fault_of (pre_chain_text_read c cs b p)
