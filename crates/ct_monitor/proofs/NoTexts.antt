-- Bytes that are not a text of a part.
use Rattle.std.proofs.Common.{◌≡◌, ◌⊎◌, inl, inr, ◌∙◌, ◌-◌, ◌/◌, ◌%◌, ◌<◌, ◌≤◌, ◌^◌, ◌==◌, Bool, true, false, ℕ, List, [], ◌∷◌, ◌++◌, length, take, drop, Option, Some, None, sym, refl, ap, subst, arith, length-append, append_assoc, append-nil, true≢false}
use Rattle.std.specs.Bool.{Decides, MatchBool}
use Rattle.std.specs.Prelude.{MatchOption}
use Rattle.std.specs.Simd.{first_chunks}
use Rattle.std.proofs.lemmas.Bool.{eq-eqb}
use Rattle.std.proofs.Math.Seq.{take-append_seam, drop-append_seam}
use Rattle.ct_codec.specs.Bytes.{num, vec}
use Rattle.ct_codec.specs.Parts.{joined}
use Rattle.ct_codec.proofs.Apart.{num_split, vec_split}
use Rattle.ct_codec.proofs.Refusals.{length-num}
use Rattle.ct_tree.specs.declared.head.Head.{Head}
use Rattle.ct_monitor.specs.WatcherState.{WatcherState}
use Rattle.ct_verify.specs.Laws.{AreHashes}
use Rattle.ct_monitor.specs.Fitting.{FitsTogether}
use Rattle.ct_monitor.specs.declared.newest.Newest.{Newest}
use Rattle.ct_monitor.specs.declared.reading.Heads.{Heads}
use Rattle.ct_monitor.specs.StateText.{AreNewestInBytes, AreSubtreesInBytes, IsHeadInBytes, IsHeadsText, IsInBytes, IsNoState, IsNoneOrInBytes, IsPartsText}
use Rattle.ct_monitor.specs.StateText.{fields_text, first_heads_text, head_text, heads_text, seen_once, subtrees_text}
use Rattle.ct_monitor.proofs.Apart.{first_of, rest_of, head_split, heads_split, first_body, second_body, first_text, second_text, subtrees_split, hash_split, joined-chunks, length-joined, parts_differ}

-- a test that decides
pub decided : (r : Bool) (P : Type 0) → Decides r P → MatchBool r P (P → ⊥)
decided true P d = d.0 refl
decided false P d = λ p. absurd (true≢false (sym (d.1 p)))

-- a test that is false
pub not_so : (r : Bool) (P Q : Type 0) → MatchBool r P Q → r ≡ false → Q
not_so r P Q m e = subst (λ (b : Bool). MatchBool b P Q) e m

-- ---- a vector

-- no vector begins if its length is not whole
pub no_length : (b x r : List ℕ) → length b < 8 → b ≡ vec 8 x ++ r → ⊥
no_length b x r h e =
    absurd (omega (arith, h, ap length e, length-append (vec 8 x) r, length-append (num 8 (length x)) x, length-num 8 (length x)))

-- no vector begins if its length is whole and its content is not
pub no_content : (n : ℕ) (b s x r : List ℕ) → n < 256 ^ 8 → length x < 256 ^ 8 → length s < n → b ≡ num 8 n ++ s → b ≡ vec 8 x ++ r → ⊥
no_content n b s x r h k short e f =
    let parts = num_split 8 n (length x) s (x ++ r) h k (sym e ∙ f ∙ append_assoc (num 8 (length x)) x r) in
    absurd (omega (arith, short, parts.0, ap length parts.1, length-append x r))

-- ---- a head

-- the fields end within the timestamp, or within the root
pub short_two : (a b : List ℕ) (n : ℕ) → a ≡ num 8 n ++ b → length b < 8 → length a < 48
short_two a b n e h = omega (arith, h, ap length e, length-append (num 8 n) b, length-num 8 n)

pub short_three : (a b d : List ℕ) (n m : ℕ) → a ≡ num 8 n ++ b → b ≡ num 8 m ++ d → length d < 32 → length a < 48
short_three a b d n m e f h =
    omega (arith, h, ap length e, length-append (num 8 n) b, length-num 8 n, ap length f, length-append (num 8 m) d, length-num 8 m)

length-fields : (head : Head) (r : List ℕ) → IsHeadInBytes head → 48 ≤ length (fields_text head ++ r)
length-fields head r b =
    omega (
      arith,
      b.root,
      length-append (fields_text head) r,
      length-append (num 8 head.tree_size) (num 8 head.timestamp ++ head.root),
      length-append (num 8 head.timestamp) head.root,
      length-num 8 head.tree_size,
      length-num 8 head.timestamp,
    )

pub no_fields : (old rest : List ℕ) (mark : ℕ) → old ≡ mark ∷ rest → mark ≡ 1 → length rest < 48 → (h : Option Head) (r : List ℕ) → IsNoneOrInBytes h
    → old ≡ head_text h ++ r → ⊥
no_fields old rest mark e one short None r b f = absurd (omega (arith, one, first_of mark 0 rest r (sym e ∙ f)))
no_fields old rest mark e one short (Some head) r b f =
    let same = rest_of mark 1 rest (fields_text head ++ r) (sym e ∙ f) in
    absurd (omega (arith, short, ap length same, length-fields head r b))

-- ---- the heads

-- the accepted head is there, and the waiting one is not
pub no_waiting : (old left : List ℕ) (accepted : Option Head) → IsNoneOrInBytes accepted → old ≡ head_text accepted ++ left
    → ((h : Option Head) (r : List ℕ) → IsNoneOrInBytes h → left ≡ head_text h ++ r → ⊥)
    → (a w : Option Head) (r : List ℕ) → IsNoneOrInBytes a → IsNoneOrInBytes w → old ≡ first_body a w r → ⊥
no_waiting old left accepted b f none a w r c d g = none w r d ((head_split accepted a left (head_text w ++ r) b c (sym f ∙ g)).1)

-- two timestamps end within the second one
pub short_second : (a b : List ℕ) (n : ℕ) → a ≡ num 8 n ++ b → length b < 8 → length a < 16
short_second a b n e h = omega (arith, h, ap length e, length-append (num 8 n) b, length-num 8 n)

length-times : (n : Newest) (r : List ℕ) → 16 ≤ length (num 8 n.accepted ++ (num 8 n.waiting ++ r))
length-times n r =
    omega (
      arith,
      length-append (num 8 n.accepted) (num 8 n.waiting ++ r),
      length-append (num 8 n.waiting) r,
      length-num 8 n.accepted,
      length-num 8 n.waiting,
    )

-- the heads are there, and the newest timestamps are not
pub no_newest : (old left : List ℕ) (accepted waiting : Option Head) → IsNoneOrInBytes accepted → IsNoneOrInBytes waiting → old ≡ first_body accepted waiting left
    → length left < 16
    → (a w : Option Head) (n : Newest) (r : List ℕ) → IsNoneOrInBytes a → IsNoneOrInBytes w → old ≡ second_body a w n r → ⊥
no_newest old left accepted waiting i j f short a w n r b c g =
    let times : List ℕ = num 8 n.accepted ++ (num 8 n.waiting ++ r) in
    let first = head_split accepted a (head_text waiting ++ left) (head_text w ++ times) i b (sym f ∙ g) in
    let second = head_split waiting w left times j c first.1 in
    absurd (omega (arith, short, ap length second.1, length-times n r))

-- no heads of a state have these bytes
abbrev pub AreNoHeads : List ℕ → Type 0
AreNoHeads old =
    (a w : Option Head) (n : Newest) (text r : List ℕ) → IsNoneOrInBytes a → IsNoneOrInBytes w → IsHeadsText a w n text → old ≡ text ++ r → ⊥

-- these heads have these bytes, but for those left
abbrev pub AreHeads : List ℕ → List ℕ → Heads → Type 0
AreHeads old left h = IsNoneOrInBytes h.accepted × IsNoneOrInBytes h.waiting × AreNewestInBytes h.newest
    × ((text : List ℕ) × IsHeadsText h.accepted h.waiting h.newest text × (old ≡ text ++ left))

pub no_version : (old : List ℕ) → length old < 1 → AreNoHeads old
no_version old short a w n text r b c (inl f) g =
    absurd (omega (arith, short, ap length (g ∙ ap (λ (x : List ℕ). x ++ r) f ∙ second_text a w n r)))
no_version old short a w n text r b c (inr f) g =
    absurd (omega (arith, short, ap length (g ∙ ap (λ (x : List ℕ). x ++ r) f.0 ∙ first_text a w r)))

pub other_version : (old rest : List ℕ) (version : ℕ) → old ≡ version ∷ rest → (version ≡ 2 → ⊥) → (version ≡ 1 → ⊥) → AreNoHeads old
other_version old rest version e two one a w n text r b c (inl f) g =
    two (first_of version 2 rest (second_body a w n r) (sym e ∙ g ∙ ap (λ (x : List ℕ). x ++ r) f ∙ second_text a w n r))
other_version old rest version e two one a w n text r b c (inr f) g =
    one (first_of version 1 rest (first_body a w r) (sym e ∙ g ∙ ap (λ (x : List ℕ). x ++ r) f.0 ∙ first_text a w r))

pub second_version : (old rest left : List ℕ) (version : ℕ) (o : Option Heads) → old ≡ version ∷ rest → version ≡ 2
    → MatchOption o ((a w : Option Head) (n : Newest) (r : List ℕ) → IsNoneOrInBytes a → IsNoneOrInBytes w → rest ≡ second_body a w n r → ⊥)
    (λ h. IsNoneOrInBytes h.accepted × IsNoneOrInBytes h.waiting × AreNewestInBytes h.newest × (rest ≡ second_body h.accepted h.waiting h.newest left))
    → MatchOption o (AreNoHeads old) (AreHeads old left)
second_version old rest left version None e v m = λ a w n text r b c f g. no a w n text r b c f g
  where
    no : AreNoHeads old
    no a w n text r b c (inl f) g =
        m a w n r b c (rest_of version 2 rest (second_body a w n r) (sym e ∙ g ∙ ap (λ (x : List ℕ). x ++ r) f ∙ second_text a w n r))
    no a w n text r b c (inr f) g =
        absurd (omega (arith, v, first_of version 1 rest (first_body a w r) (sym e ∙ g ∙ ap (λ (x : List ℕ). x ++ r) f.0 ∙ first_text a w r)))
second_version old rest left version (Some h) e v m = (
  m.0,
  m.1,
  m.2,
  (
    heads_text h.accepted h.waiting h.newest,
    inl refl,
    e ∙ ap (λ (x : ℕ). x ∷ rest) v ∙ ap (λ (x : List ℕ). 2 ∷ x) m.3 ∙ sym (second_text h.accepted h.waiting h.newest left),
  ),
)

pub first_version : (old rest left : List ℕ) (version : ℕ) (o : Option Heads) → old ≡ version ∷ rest → version ≡ 1
    → MatchOption o ((a w : Option Head) (r : List ℕ) → IsNoneOrInBytes a → IsNoneOrInBytes w → rest ≡ first_body a w r → ⊥)
    (λ h. IsNoneOrInBytes h.accepted × IsNoneOrInBytes h.waiting × AreNewestInBytes h.newest × (h.newest ≡ seen_once h.accepted h.waiting)
    × (rest ≡ first_body h.accepted h.waiting left))
    → MatchOption o (AreNoHeads old) (AreHeads old left)
first_version old rest left version None e v m = λ a w n text r b c f g. no a w n text r b c f g
  where
    no : AreNoHeads old
    no a w n text r b c (inl f) g =
        absurd (omega (arith, v, first_of version 2 rest (second_body a w n r) (sym e ∙ g ∙ ap (λ (x : List ℕ). x ++ r) f ∙ second_text a w n r)))
    no a w n text r b c (inr f) g =
        m a w r b c (rest_of version 1 rest (first_body a w r) (sym e ∙ g ∙ ap (λ (x : List ℕ). x ++ r) f.0 ∙ first_text a w r))
first_version old rest left version (Some h) e v m = (
  m.0,
  m.1,
  m.2,
  (
    first_heads_text h.accepted h.waiting,
    inr (refl, m.3),
    e ∙ ap (λ (x : ℕ). x ∷ rest) v ∙ ap (λ (x : List ℕ). 1 ∷ x) m.4 ∙ sym (first_text h.accepted h.waiting left),
  ),
)

-- ---- hashes

pub whole_hashes : (b : List ℕ) (p : List (List ℕ)) → AreHashes p → b ≡ joined p → length b % 32 ≡ 0
whole_hashes b p a e = omega (arith, ap length e, length-joined p a)

pub hashes_back : (b : List ℕ) → length b % 32 ≡ 0 → joined (first_chunks 32 (length b / 32) b) ≡ b
hashes_back b e = joined-chunks (length b / 32) b (omega (arith, e))

-- ---- subtrees

whole : (p : ℕ × List (List ℕ)) (r : List ℕ) → subtrees_text p ++ r ≡ num 8 p.0 ++ (vec 8 (joined p.1) ++ r)
whole p r = append_assoc (num 8 p.0) (vec 8 (joined p.1)) r

pub no_leaves : (old : List ℕ) → length old < 8 → (p : ℕ × List (List ℕ)) (r : List ℕ) → AreSubtreesInBytes p → old ≡ subtrees_text p ++ r → ⊥
no_leaves old h p r a e =
    absurd (omega (arith, h, ap length e, ap length (whole p r), length-append (num 8 p.0) (vec 8 (joined p.1) ++ r), length-num 8 p.0))

pub no_vector : (old left : List ℕ) (n : ℕ) → n < 256 ^ 8 → old ≡ num 8 n ++ left → ((x r : List ℕ) → length x < 256 ^ 8 → left ≡ vec 8 x ++ r → ⊥)
    → (p : ℕ × List (List ℕ)) (r : List ℕ) → AreSubtreesInBytes p → old ≡ subtrees_text p ++ r → ⊥
no_vector old left n h e none p r a f =
    none (joined p.1) r a.size ((num_split 8 n p.0 left (vec 8 (joined p.1) ++ r) h a.leaves (sym e ∙ f ∙ whole p r)).1)

pub no_roots : (old left behind x : List ℕ) (n : ℕ) → n < 256 ^ 8 → old ≡ num 8 n ++ left → length x < 256 ^ 8 → left ≡ vec 8 x ++ behind
    → ((p : List (List ℕ)) → AreHashes p → x ≡ joined p → ⊥)
    → (p : ℕ × List (List ℕ)) (r : List ℕ) → AreSubtreesInBytes p → old ≡ subtrees_text p ++ r → ⊥
no_roots old left behind x n h e k f none p r a g =
    let rest = (num_split 8 n p.0 left (vec 8 (joined p.1) ++ r) h a.leaves (sym e ∙ g ∙ whole p r)).1 in
    none p.1 a.roots ((vec_split 8 x (joined p.1) behind r k a.size (sym f ∙ rest)).0)

pub no_all : (old left : List ℕ) (sure : ℕ × List (List ℕ)) → AreSubtreesInBytes sure → old ≡ subtrees_text sure ++ left
    → ((p : ℕ × List (List ℕ)) (r : List ℕ) → AreSubtreesInBytes p → left ≡ subtrees_text p ++ r → ⊥)
    → (p q : ℕ × List (List ℕ)) → AreSubtreesInBytes p → AreSubtreesInBytes q → old ≡ subtrees_text p ++ subtrees_text q → ⊥
no_all old left sure a e none p q b c f =
    none q [] c ((subtrees_split sure p left (subtrees_text q) a b (sym e ∙ f)).1 ∙ sym (append-nil (subtrees_text q)))

pub left_over : (old left behind : List ℕ) (sure all : ℕ × List (List ℕ)) → AreSubtreesInBytes sure → old ≡ subtrees_text sure ++ left → AreSubtreesInBytes all
    → left ≡ subtrees_text all ++ behind → (length behind == 0) ≡ false
    → (p q : ℕ × List (List ℕ)) → AreSubtreesInBytes p → AreSubtreesInBytes q → old ≡ subtrees_text p ++ subtrees_text q → ⊥
left_over old left behind sure all a e b f some p q c d g =
    let rest = (subtrees_split sure p left (subtrees_text q) a c (sym e ∙ g)).1 in
    let end = (subtrees_split all q behind [] b d (sym f ∙ rest ∙ sym (append-nil (subtrees_text q)))).1 in
    let ended : (length behind == 0) ≡ true = eq-eqb (length behind) 0 (ap length end) in
    absurd (true≢false (sym ended ∙ some))

-- ---- all parts

abbrev both : WatcherState → List ℕ
both s = subtrees_text s.sure ++ subtrees_text s.all

pub no_both : (old left : List ℕ) (h : Heads) → AreHeads old left h
    → ((p q : ℕ × List (List ℕ)) → AreSubtreesInBytes p → AreSubtreesInBytes q → left ≡ subtrees_text p ++ subtrees_text q → ⊥)
    → (s : WatcherState) → IsInBytes s → IsPartsText s old → ⊥
no_both old left h (i, j, k, (text, is, e)) none s b (other, was, f) =
    let split = heads_split h.accepted h.waiting h.newest text left s.accepted s.waiting s.newest other (both s) i j k b.accepted b.waiting b.newest is was (sym e ∙ f) in
    none s.sure s.all b.sure b.all split.3

pub no_heads : (old : List ℕ) → AreNoHeads old → (s : WatcherState) → IsInBytes s → IsPartsText s old → ⊥
no_heads old none s b (text, is, e) = none s.accepted s.waiting s.newest text (both s) b.accepted b.waiting is e

pub all_parts : (old left : List ℕ) (h : Heads) (sure all : ℕ × List (List ℕ)) → AreHeads old left h → left ≡ subtrees_text sure ++ subtrees_text all
    → IsPartsText (record { accepted = h.accepted; waiting = h.waiting; newest = h.newest; sure = sure; all = all }) old
all_parts old left h sure all (i, j, k, (text, is, e)) f = (text, is, e ∙ ap (λ (x : List ℕ). text ++ x) f)

-- ---- the hash after the parts

pub no_hash : (H : List ℕ → List ℕ) → ((x : List ℕ) → length (H x) ≡ 32) → (b : List ℕ) → length b < 32 → (parts : List ℕ) → b ≡ parts ++ H parts → ⊥
no_hash H h b short parts e = absurd (omega (arith, short, ap length e, length-append parts (H parts), h parts))

pub other_hash : (H : List ℕ → List ℕ) → ((x : List ℕ) → length (H x) ≡ 32) → (b parts check : List ℕ) → parts ≡ take (length b - 32) b → check ≡ drop (length b - 32) b
    → (H parts ≡ check → ⊥) → (p : List ℕ) → b ≡ p ++ H p → ⊥
other_hash H h b parts check e f other p g =
    let size : length b - 32 ≡ length p = omega (arith, ap length g, length-append p (H p), h p) in
    let front : parts ≡ p = e ∙ ap (λ (n : ℕ). take n b) size ∙ ap (take (length p)) g ∙ take-append_seam p (H p) in
    let back : check ≡ H p = f ∙ ap (λ (n : ℕ). drop n b) size ∙ ap (drop (length p)) g ∙ drop-append_seam p (H p) in
    other (ap H front ∙ sym back)

-- ---- a state

pub no_parts : (H : List ℕ → List ℕ) → ((x : List ℕ) → length (H x) ≡ 32) → (bytes parts : List ℕ) → bytes ≡ parts ++ H parts
    → ((s : WatcherState) → IsInBytes s → IsPartsText s parts → ⊥) → IsNoState H bytes
no_parts H h bytes parts e none = λ s is.
    let p = is.text.0 in
    none s is.numbers (subst (IsPartsText s) (sym ((hash_split H h parts p (H parts) (H p) (h parts) (h p) (sym e ∙ is.text.2)).0)) is.text.1)

pub not_fitting : (H : List ℕ → List ℕ) → ((x : List ℕ) → length (H x) ≡ 32) → (bytes parts : List ℕ) (w : WatcherState) → bytes ≡ parts ++ H parts → IsInBytes w
    → IsPartsText w parts → (FitsTogether H w → ⊥) → IsNoState H bytes
not_fitting H h bytes parts w e i f other = λ s is.
    let p = is.text.0 in
    let same = (hash_split H h parts p (H parts) (H p) (h parts) (h p) (sym e ∙ is.text.2)).0 in
    other (subst (FitsTogether H) (parts_differ s w parts is.numbers i (subst (IsPartsText s) (sym same) is.text.1) f) is.fits)
