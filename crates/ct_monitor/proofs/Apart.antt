-- No bytes are two states, and no text of a part is a prefix of another.
use Rattle.std.proofs.Common.{◌≡◌, ◌∙◌, ◌*◌, ℕ, zero, suc, List, [], ◌∷◌, ◌++◌, length, take, drop, Option, Some, None, sym, refl, ap, subst, inl, inr, arith, length-append, length-drop, append_assoc, append-nil}
use Rattle.std.specs.Simd.{first_chunks}
use Rattle.std.proofs.lemmas.List.{take-append-drop, take_at, drop_at, nil_from_length}
use Rattle.std.proofs.lemmas.List.Elements.{All-head, All-tail}
use Rattle.ct_codec.specs.Bytes.{num, vec}
use Rattle.ct_codec.specs.Parts.{joined}
use Rattle.ct_codec.proofs.Apart.{split_equal, num_split, vec_split}
use Rattle.ct_tree.specs.declared.head.Head.{Head}
use Rattle.ct_monitor.specs.WatcherState.{WatcherState}
use Rattle.ct_verify.specs.Laws.{AreHashes}
use Rattle.ct_monitor.specs.declared.newest.Newest.{Newest}
use Rattle.ct_monitor.specs.StateText.{AreNewestInBytes, AreSubtreesInBytes, IsHeadInBytes, IsHeadsText, IsInBytes, IsMonitorState, IsNoneOrInBytes, IsPartsText}
use Rattle.ct_monitor.specs.StateText.{fields_text, first_heads_text, head_text, heads_text, monitor_state_text, parts_text, seen_once, subtrees_text}
use Rattle.ct_monitor.specs.Fitting.{FitsTogether}
use Rattle.ct_monitor.specs.CallLaws.{MonitorStatesDiffer, UnfitStatesAreRefused}

abbrev Has32 : List ℕ → Type 0
Has32 h = length h ≡ 32

-- ---- hashes and their bytes

pub joined-chunks : (k : ℕ) (b : List ℕ) → length b ≡ 32 * k → joined (first_chunks 32 k b) ≡ b
joined-chunks zero b e = sym (nil_from_length b (omega (arith, e)))
joined-chunks (suc k) b e =
    ap (λ (r : List ℕ). take 32 b ++ r) (joined-chunks k (drop 32 b) (omega (arith, e, length-drop 32 b))) ∙ take-append-drop 32 b

pub length-joined : (t : List (List ℕ)) → AreHashes t → length (joined t) ≡ 32 * length t
length-joined [] a = refl
length-joined (h ∷ t) a = omega (arith, length-append h (joined t), All-head Has32 h t a, length-joined t (All-tail Has32 h t a))

chunks-joined : (t : List (List ℕ)) → AreHashes t → first_chunks 32 (length t) (joined t) ≡ t
chunks-joined [] a = refl
chunks-joined (h ∷ t) a =
    let size : length h ≡ 32 = All-head Has32 h t a in
    ap (λ (x : List ℕ). x ∷ first_chunks 32 (length t) (drop 32 (h ++ joined t))) (take_at h (joined t) 32 size)
    ∙ ap (λ (x : List ℕ). h ∷ first_chunks 32 (length t) x) (drop_at h (joined t) 32 size)
    ∙ ap (λ (x : List (List ℕ)). h ∷ x) (chunks-joined t (All-tail Has32 h t a))

joined_one : (t u : List (List ℕ)) → AreHashes t → AreHashes u → joined t ≡ joined u → t ≡ u
joined_one t u a b e =
    let n : length t ≡ length u = omega (arith, ap length e, length-joined t a, length-joined u b) in
    sym (chunks-joined t a) ∙ ap (λ (k : ℕ). first_chunks 32 k (joined t)) n ∙ ap (first_chunks 32 (length u)) e ∙ chunks-joined u b

-- ---- each part

three : (a b c r : List ℕ) → (a ++ (b ++ c)) ++ r ≡ a ++ (b ++ (c ++ r))
three a b c r = append_assoc a (b ++ c) r ∙ ap (λ (x : List ℕ). a ++ x) (append_assoc b c r)

pub first_of : (a b : ℕ) (r q : List ℕ) → a ∷ r ≡ b ∷ q → a ≡ b
first_of a b r q e = cc

pub rest_of : (a b : ℕ) (r q : List ℕ) → a ∷ r ≡ b ∷ q → r ≡ q
rest_of a b r q e = cc

abbrev head_from : ℕ → ℕ → List ℕ → Head
head_from tree_size timestamp root = record { tree_size = tree_size; timestamp = timestamp; root = root }

same_head : (a b c d : ℕ) (x y : List ℕ) → a ≡ b → c ≡ d → x ≡ y → head_from a c x ≡ head_from b d y
same_head a b c d x y e f g =
    ap (λ (n : ℕ). head_from n c x) e ∙ ap (λ (n : ℕ). head_from b n x) f ∙ ap (λ (r : List ℕ). head_from b d r) g

fields_split : (g h : Head) (r q : List ℕ) → IsHeadInBytes g → IsHeadInBytes h → fields_text g ++ r ≡ fields_text h ++ q → (g ≡ h) × (r ≡ q)
fields_split g h r q a b e =
    let whole = sym (three (num 8 g.tree_size) (num 8 g.timestamp) g.root r) ∙ e ∙ three (num 8 h.tree_size) (num 8 h.timestamp) h.root q in
    let size = num_split 8 g.tree_size h.tree_size (num 8 g.timestamp ++ (g.root ++ r)) (num 8 h.timestamp ++ (h.root ++ q)) a.tree_size b.tree_size whole in
    let time = num_split 8 g.timestamp h.timestamp (g.root ++ r) (h.root ++ q) a.timestamp b.timestamp size.1 in
    let root = split_equal g.root h.root r q (a.root ∙ sym b.root) time.1 in
    (same_head g.tree_size h.tree_size g.timestamp h.timestamp g.root h.root size.0 time.0 root.0, root.1)

pub head_split : (g h : Option Head) (r q : List ℕ) → IsNoneOrInBytes g → IsNoneOrInBytes h → head_text g ++ r ≡ head_text h ++ q → (g ≡ h) × (r ≡ q)
head_split None None r q a b e = (refl, rest_of 0 0 r q e)
head_split None (Some h) r q a b e = absurd (omega (arith, first_of 0 1 r (fields_text h ++ q) e))
head_split (Some g) None r q a b e = absurd (omega (arith, first_of 1 0 (fields_text g ++ r) q e))
head_split (Some g) (Some h) r q a b e =
    let parts = fields_split g h r q a b (rest_of 1 1 (fields_text g ++ r) (fields_text h ++ q) e) in
    (ap (λ (x : Head). Some x) parts.0, parts.1)

abbrev pair_from : ℕ → List (List ℕ) → ℕ × List (List ℕ)
pair_from n roots = (n, roots)

same_pair : (a b : ℕ) (x y : List (List ℕ)) → a ≡ b → x ≡ y → pair_from a x ≡ pair_from b y
same_pair a b x y e f = ap (λ (n : ℕ). pair_from n x) e ∙ ap (λ (l : List (List ℕ)). pair_from b l) f

pub subtrees_split : (p q : ℕ × List (List ℕ)) (r s : List ℕ) → AreSubtreesInBytes p → AreSubtreesInBytes q → subtrees_text p ++ r ≡ subtrees_text q ++ s
    → (p ≡ q) × (r ≡ s)
subtrees_split p q r s a b e =
    let whole : num 8 p.0 ++ (vec 8 (joined p.1) ++ r) ≡ num 8 q.0 ++ (vec 8 (joined q.1) ++ s) =
    sym (append_assoc (num 8 p.0) (vec 8 (joined p.1)) r) ∙ e ∙ append_assoc (num 8 q.0) (vec 8 (joined q.1)) s in
    let leaves = num_split 8 p.0 q.0 (vec 8 (joined p.1) ++ r) (vec 8 (joined q.1) ++ s) a.leaves b.leaves whole in
    let roots = vec_split 8 (joined p.1) (joined q.1) r s a.size b.size leaves.1 in
    (same_pair p.0 q.0 p.1 q.1 leaves.0 (joined_one p.1 q.1 a.roots b.roots roots.0), roots.1)

-- ---- all parts

abbrev newest_from : ℕ → ℕ → Newest
newest_from accepted waiting = record { accepted = accepted; waiting = waiting }

same_newest : (a b c d : ℕ) → a ≡ b → c ≡ d → newest_from a c ≡ newest_from b d
same_newest a b c d e f = ap (λ (n : ℕ). newest_from n c) e ∙ ap (λ (n : ℕ). newest_from b n) f

newest_split : (n m : Newest) (r q : List ℕ) → AreNewestInBytes n → AreNewestInBytes m
    → num 8 n.accepted ++ (num 8 n.waiting ++ r) ≡ num 8 m.accepted ++ (num 8 m.waiting ++ q) → (n ≡ m) × (r ≡ q)
newest_split n m r q a b e =
    let first = num_split 8 n.accepted m.accepted (num 8 n.waiting ++ r) (num 8 m.waiting ++ q) a.accepted b.accepted e in
    let second = num_split 8 n.waiting m.waiting r q a.waiting b.waiting first.1 in
    (same_newest n.accepted m.accepted n.waiting m.waiting first.0 second.0, second.1)

-- the bytes after the version: of the version 1, and of the version 2
abbrev pub first_body : Option Head → Option Head → List ℕ → List ℕ
first_body accepted waiting r = head_text accepted ++ (head_text waiting ++ r)

abbrev pub second_body : Option Head → Option Head → Newest → List ℕ → List ℕ
second_body accepted waiting newest r = head_text accepted ++ (head_text waiting ++ (num 8 newest.accepted ++ (num 8 newest.waiting ++ r)))

pub first_text : (a w : Option Head) (r : List ℕ) → first_heads_text a w ++ r ≡ 1 ∷ first_body a w r
first_text a w r = ap (λ (x : List ℕ). 1 ∷ x) (append_assoc (head_text a) (head_text w) r)

pub second_text : (a w : Option Head) (n : Newest) (r : List ℕ) → heads_text a w n ++ r ≡ 2 ∷ second_body a w n r
second_text a w n r =
    let times : List ℕ = num 8 n.accepted ++ num 8 n.waiting in
    ap (λ (x : List ℕ). 2 ∷ x)
    (append_assoc (head_text a) (head_text w ++ times) r
    ∙ ap (λ (x : List ℕ). head_text a ++ x) (append_assoc (head_text w) times r)
    ∙ ap (λ (x : List ℕ). head_text a ++ (head_text w ++ x)) (append_assoc (num 8 n.accepted) (num 8 n.waiting) r))

-- two texts of heads, and what follows them
abbrev AreSameHeads : Option Head → Option Head → Newest → List ℕ → Option Head → Option Head → Newest → List ℕ → Type 0
AreSameHeads a w n r b x m q = (a ≡ b) × (w ≡ x) × (n ≡ m) × (r ≡ q)

seconds_split : (a w : Option Head) (n : Newest) (r : List ℕ) (b x : Option Head) (m : Newest) (q : List ℕ) → IsNoneOrInBytes a → IsNoneOrInBytes w → AreNewestInBytes n
    → IsNoneOrInBytes b → IsNoneOrInBytes x → AreNewestInBytes m → second_body a w n r ≡ second_body b x m q → AreSameHeads a w n r b x m q
seconds_split a w n r b x m q i j k p s t e =
    let accepted = head_split a b (head_text w ++ (num 8 n.accepted ++ (num 8 n.waiting ++ r))) (head_text x ++ (num 8 m.accepted ++ (num 8 m.waiting ++ q))) i p e in
    let waiting = head_split w x (num 8 n.accepted ++ (num 8 n.waiting ++ r)) (num 8 m.accepted ++ (num 8 m.waiting ++ q)) j s accepted.1 in
    let newest = newest_split n m r q k t waiting.1 in
    (accepted.0, waiting.0, newest.0, newest.1)

firsts_split : (a w : Option Head) (n : Newest) (r : List ℕ) (b x : Option Head) (m : Newest) (q : List ℕ) → IsNoneOrInBytes a → IsNoneOrInBytes w
    → IsNoneOrInBytes b → IsNoneOrInBytes x → n ≡ seen_once a w → m ≡ seen_once b x → first_body a w r ≡ first_body b x q → AreSameHeads a w n r b x m q
firsts_split a w n r b x m q i j p s once again e =
    let accepted = head_split a b (head_text w ++ r) (head_text x ++ q) i p e in
    let waiting = head_split w x r q j s accepted.1 in
    let same : seen_once a w ≡ seen_once b x = ap (λ (o : Option Head). seen_once o w) accepted.0 ∙ ap (λ (o : Option Head). seen_once b o) waiting.0 in
    (accepted.0, waiting.0, once ∙ same ∙ sym again, waiting.1)

pub heads_split : (a w : Option Head) (n : Newest) (text r : List ℕ) (b x : Option Head) (m : Newest) (other q : List ℕ) → IsNoneOrInBytes a → IsNoneOrInBytes w
    → AreNewestInBytes n → IsNoneOrInBytes b → IsNoneOrInBytes x → AreNewestInBytes m → IsHeadsText a w n text → IsHeadsText b x m other → text ++ r ≡ other ++ q
    → AreSameHeads a w n r b x m q
heads_split a w n text r b x m other q i j k p s t (inl f) (inl g) e =
    let whole = sym (second_text a w n r) ∙ ap (λ (y : List ℕ). y ++ r) (sym f) ∙ e ∙ ap (λ (y : List ℕ). y ++ q) g ∙ second_text b x m q in
    seconds_split a w n r b x m q i j k p s t (rest_of 2 2 (second_body a w n r) (second_body b x m q) whole)
heads_split a w n text r b x m other q i j k p s t (inl f) (inr g) e =
    let whole = sym (second_text a w n r) ∙ ap (λ (y : List ℕ). y ++ r) (sym f) ∙ e ∙ ap (λ (y : List ℕ). y ++ q) g.0 ∙ first_text b x q in
    absurd (omega (arith, first_of 2 1 (second_body a w n r) (first_body b x q) whole))
heads_split a w n text r b x m other q i j k p s t (inr f) (inl g) e =
    let whole = sym (first_text a w r) ∙ ap (λ (y : List ℕ). y ++ r) (sym f.0) ∙ e ∙ ap (λ (y : List ℕ). y ++ q) g ∙ second_text b x m q in
    absurd (omega (arith, first_of 1 2 (first_body a w r) (second_body b x m q) whole))
heads_split a w n text r b x m other q i j k p s t (inr f) (inr g) e =
    let whole = sym (first_text a w r) ∙ ap (λ (y : List ℕ). y ++ r) (sym f.0) ∙ e ∙ ap (λ (y : List ℕ). y ++ q) g.0 ∙ first_text b x q in
    firsts_split a w n r b x m q i j p s f.1 g.1 (rest_of 1 1 (first_body a w r) (first_body b x q) whole)

abbrev state_from : Option Head → Option Head → Newest → ℕ × List (List ℕ) → ℕ × List (List ℕ) → WatcherState
state_from accepted waiting newest sure all = record { accepted = accepted; waiting = waiting; newest = newest; sure = sure; all = all }

same_state : (a b c d : Option Head) (n m : Newest) (p q r s : ℕ × List (List ℕ)) → a ≡ b → c ≡ d → n ≡ m → p ≡ q → r ≡ s
    → state_from a c n p r ≡ state_from b d m q s
same_state a b c d n m p q r s e f i g h =
    ap (λ (x : Option Head). state_from x c n p r) e ∙ ap (λ (x : Option Head). state_from b x n p r) f ∙ ap (λ (x : Newest). state_from b d x p r) i
    ∙ ap (λ (x : ℕ × List (List ℕ)). state_from b d m x r) g ∙ ap (λ (x : ℕ × List (List ℕ)). state_from b d m q x) h

abbrev subtrees_of : WatcherState → List ℕ
subtrees_of s = subtrees_text s.sure ++ subtrees_text s.all

-- the same bytes are the parts of one state
pub parts_differ : (s t : WatcherState) (parts : List ℕ) → IsInBytes s → IsInBytes t → IsPartsText s parts → IsPartsText t parts → s ≡ t
parts_differ s t parts a b e f =
    let heads = heads_split s.accepted s.waiting s.newest e.0 (subtrees_of s) t.accepted t.waiting t.newest f.0 (subtrees_of t) a.accepted a.waiting a.newest
    b.accepted b.waiting b.newest e.1 f.1 (sym e.2 ∙ f.2) in
    let sure = subtrees_split s.sure t.sure (subtrees_text s.all) (subtrees_text t.all) a.sure b.sure heads.3 in
    let all = subtrees_split s.all t.all [] [] a.all b.all (append-nil (subtrees_text s.all) ∙ sure.1 ∙ sym (append-nil (subtrees_text t.all))) in
    same_state s.accepted t.accepted s.waiting t.waiting s.newest t.newest s.sure t.sure s.all t.all heads.0 heads.1 heads.2 sure.0 all.0

-- the parts of a state as they are written
pub written : (s : WatcherState) → IsPartsText s (parts_text s)
written s = (heads_text s.accepted s.waiting s.newest, inl refl, refl)

-- texts that end in their hashes are the same, if they have the same bytes
pub hash_split : (H : List ℕ → List ℕ) → ((x : List ℕ) → length (H x) ≡ 32) → (a b x y : List ℕ) → length x ≡ 32 → length y ≡ 32 → a ++ x ≡ b ++ y → (a ≡ b) × (x ≡ y)
hash_split H h a b x y n m e =
    split_equal a b x y (omega (arith, n, m, ap length e, length-append a x, length-append b y)) e

pub states_differ : MonitorStatesDiffer
states_differ H h s t a b e =
    let parts = hash_split H h (parts_text s) (parts_text t) (H (parts_text s)) (H (parts_text t)) (h (parts_text s)) (h (parts_text t)) e in
    parts_differ s t (parts_text s) a b (written s) (subst (IsPartsText t) (sym parts.0) (written t))

-- the bytes that a state is written as are a state
pub written_state : (H : List ℕ → List ℕ) (s : WatcherState) (bytes : List ℕ) → IsInBytes s → FitsTogether H s → bytes ≡ monitor_state_text H s
    → IsMonitorState H s bytes
written_state H s bytes numbers fits text = record { numbers = numbers; fits = fits; text = (parts_text s, written s, text) }

-- bytes that are two states
pub one_state : (H : List ℕ → List ℕ) → ((x : List ℕ) → length (H x) ≡ 32) → (s t : WatcherState) (bytes : List ℕ) → IsMonitorState H s bytes → IsMonitorState H t bytes
    → s ≡ t
one_state H h s t bytes a b =
    let p = a.text.0 in
    let q = b.text.0 in
    let parts = hash_split H h p q (H p) (H q) (h p) (h q) (sym a.text.2 ∙ b.text.2) in
    parts_differ s t p a.numbers b.numbers a.text.1 (subst (IsPartsText t) (sym parts.0) b.text.1)

pub unfit_states_are_refused : UnfitStatesAreRefused
unfit_states_are_refused H h s numbers unfit = λ t is.
    let p = is.text.0 in
    let parts = hash_split H h p (parts_text s) (H p) (H (parts_text s)) (h p) (h (parts_text s)) (sym is.text.2) in
    unfit (subst (FitsTogether H) (parts_differ t s p is.numbers numbers is.text.1 (subst (IsPartsText s) (sym parts.0) (written s))) is.fits)
