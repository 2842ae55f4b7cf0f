-- The numbers of a tile are read from its name.
use Rattle.std.proofs.Common.{◌≡◌, ℕ, zero, suc, ◌+◌, ◌-◌, ◌*◌, ◌/◌, ◌%◌, ◌^◌, ◌<◌, ◌≤◌, refl, sym, ◌∙◌, ap, arith, ◌≢◌, ⊎_elim, ◌⊎◌, inl, inr, Option, Some, None, take, MatchOption, Bool, true, false, nat_eq, nat_lt, List, [], ◌∷◌, ◌++◌, length, drop, get_or, append_assoc, append-nil, length-append}
use Rattle.std.proofs.lemmas.Bool.{ne_eqb, lt-ltb, le-ltb, cases_lt, false≢true}
use Rattle.std.proofs.lemmas.Bool.Decides.{eqb_tells, nat_tests}
use Rattle.std.proofs.lemmas.List.{drop_more, drop_all, take_rest}
use Rattle.std.proofs.Math.Nat.{pow-suc}
use Rattle.std.proofs.lemmas.Grind.{common_steps}
use Rattle.std.specs.Prelude.{codes, if◌then◌else◌}
use Rattle.std.proofs.Math.Seq.{drop-append_seam}
use Rattle.std.proofs.lemmas.List.{get_or-append-add}
use Rattle.ct_data_tiles.specs.TileNames.{IsTile, IsContent, three_digits, decimal, group, leading_groups, index_text, content_text, width_text, name_text}
use Rattle.ct_data_tiles.specs.NameAnswers.{NamesDiffer}
use Rattle.ct_data_tiles.specs.NameReading.{with_digit, number_until, is_data, level_number, width_number, HasNumbers}
use Rattle.ct_data_tiles.specs.declared.tile.Content.{Content}
use Rattle.ct_data_tiles.specs.declared.tile.Content.TheVariants.{Hashes, Entries}
use Rattle.ct_data_tiles.specs.declared.tile.Tile.{Tile}

pass : (end n b : ℕ) (T : List ℕ) → (b ≡ end → ⊥) → number_until end n (b ∷ T) ≡ number_until end (with_digit n b) T
unfolding number_until
pass end n b T h = rw (ne_eqb b end h) refl

digit_is : (n d : ℕ) → d < 10 → with_digit n (48 + d) ≡ n * 10 + d
digit_is n d h =
    let low : nat_lt (48 + d) 48 ≡ false = le-ltb (48 + d) 48 (omega arith) in
    let high : nat_lt 57 (48 + d) ≡ false = le-ltb 57 (48 + d) (omega arith) in
    rw (low, high) (omega arith)

on_digit : (end n d : ℕ) (T : List ℕ) → end < 48 → d < 10 → number_until end n ((48 + d) ∷ T) ≡ number_until end (n * 10 + d) T
on_digit end n d T e h = pass end n (48 + d) T (λ same. absurd (omega arith)) ∙ ap (λ k. number_until end k T) (digit_is n d h)

on_three : (end n m : ℕ) (T : List ℕ) → end < 48 → m < 1000 → number_until end n (three_digits m ++ T) ≡ number_until end (n * 1000 + m) T
on_three end n m T e h =
    let sum : ((n * 10 + m / 100 % 10) * 10 + m / 10 % 10) * 10 + m % 10 ≡ n * 1000 + m = omega arith in
    on_digit end n (m / 100 % 10) ((48 + m / 10 % 10) ∷ (48 + m % 10) ∷ T) e (omega arith)
    ∙ on_digit end (n * 10 + m / 100 % 10) (m / 10 % 10) ((48 + m % 10) ∷ T) e (omega arith)
    ∙ on_digit end ((n * 10 + m / 100 % 10) * 10 + m / 10 % 10) (m % 10) T e (omega arith)
    ∙ ap (λ k. number_until end k T) sum

on_decimal : (end n : ℕ) (T : List ℕ) → end < 48 → n < 1000 → number_until end 0 (decimal n ++ T) ≡ number_until end n T
on_decimal end n T e h =
    ⊎_elim
    (λ (one : n < 10). let sum : 0 * 10 + n % 10 ≡ n = omega arith in
    rw (lt-ltb n 10 one) (on_digit end 0 (n % 10) T e (omega arith) ∙ ap (λ k. number_until end k T) sum))
    (λ (more : 10 ≤ n).
    ⊎_elim
    (λ (two : n < 100). let sum : (0 * 10 + n / 10 % 10) * 10 + n % 10 ≡ n = omega arith in
    rw (le-ltb n 10 more, lt-ltb n 100 two)
    (on_digit end 0 (n / 10 % 10) ((48 + n % 10) ∷ T) e (omega arith)
    ∙ on_digit end (0 * 10 + n / 10 % 10) (n % 10) T e (omega arith) ∙ ap (λ k. number_until end k T) sum))
    (λ (three : 100 ≤ n). let sum : 0 * 1000 + n ≡ n = omega arith in
    rw (le-ltb n 10 more, le-ltb n 100 three) (on_three end 0 n T e h ∙ ap (λ k. number_until end k T) sum))
    (cases_lt n 100))
    (cases_lt n 10)

groups_more : (groups n : ℕ) → 0 < n → leading_groups (suc groups) n ≡ leading_groups groups (n / 1000) ++ group (n % 1000)
unfolding leading_groups
groups_more groups n h = rw (lt-ltb 0 n h) refl

on_group : (n m : ℕ) (T : List ℕ) → m < 1000 → number_until 46 n (group m ++ T) ≡ number_until 46 (n * 1000 + m) T
on_group n m T h =
    pass 46 n 120 (three_digits m ++ 47 ∷ T) (λ same. absurd (omega arith))
    ∙ on_three 46 n m (47 ∷ T) (omega arith) h
    ∙ pass 46 (n * 1000 + m) 47 T (λ same. absurd (omega arith))

groups_none : (groups n : ℕ) → n ≡ 0 → leading_groups groups n ≡ []
unfolding leading_groups
groups_none zero n e = refl
groups_none (suc groups) n e = rw e refl

groups_zero : (n : ℕ) → leading_groups 0 n ≡ []
unfolding leading_groups
groups_zero n = refl

on_groups : (groups n : ℕ) (T : List ℕ) → n < 1000 ^ groups → number_until 46 0 (leading_groups groups n ++ T) ≡ number_until 46 n T
on_groups zero n T h =
    let none : n ≡ 0 = omega arith in
    ap (λ g. number_until 46 0 (g ++ T)) (groups_none 0 n none) ∙ ap (λ k. number_until 46 k T) (sym none)
on_groups (suc groups) n T h =
    ⊎_elim
    (λ (some : 0 < n).
    let few : n / 1000 < 1000 ^ groups = omega (arith, pow-suc 1000 groups) in
    let sum : n / 1000 * 1000 + n % 1000 ≡ n = omega arith in
    ap (λ g. number_until 46 0 (g ++ T)) (groups_more groups n some)
    ∙ ap (number_until 46 0) (append_assoc (leading_groups groups (n / 1000)) (group (n % 1000)) T)
    ∙ on_groups groups (n / 1000) (group (n % 1000) ++ T) few
    ∙ on_group (n / 1000) (n % 1000) T (omega arith)
    ∙ ap (λ k. number_until 46 k T) sum)
    (λ (few : n ≤ 0).
    let none : n ≡ 0 = omega arith in
    ap (λ g. number_until 46 0 (g ++ T)) (groups_none (suc groups) n none) ∙ ap (λ k. number_until 46 k T) (sym none))
    (cases_lt 0 n)

on_index : (n : ℕ) (T : List ℕ) → n < 2 ^ 64 → number_until 46 0 (index_text n ++ T) ≡ number_until 46 n T
on_index n T h =
    let few : n / 1000 < 1000 ^ 6 = omega arith in
    let sum : n / 1000 * 1000 + n % 1000 ≡ n = omega arith in
    ap (number_until 46 0) (append_assoc (leading_groups 6 (n / 1000)) (three_digits (n % 1000)) T)
    ∙ on_groups 6 (n / 1000) (three_digits (n % 1000) ++ T) few
    ∙ on_three 46 (n / 1000) (n % 1000) T (omega arith) (omega arith)
    ∙ ap (λ k. number_until 46 k T) sum

ends : (end n : ℕ) (T : List ℕ) → number_until end n (end ∷ T) ≡ (n, T)
unfolding number_until
ends end n T = rw (same end) refl
  where
    same : (a : ℕ) → nat_eq a a ≡ true
    same a = grind (arith)

stops : (end n : ℕ) → number_until end n [] ≡ (n, [])
unfolding number_until
stops end n = refl

pub content_read : (content : Content) (T : List ℕ) → IsContent content → number_until 47 0 (content_text content ++ 47 ∷ T) ≡ (level_number content, T)
content_read (Hashes level) T few = on_decimal 47 level (47 ∷ T) (omega arith) (omega arith) ∙ ends 47 level T
content_read Entries T few =
    pass 47 0 100 (97 ∷ 116 ∷ 97 ∷ 47 ∷ T) (λ same. absurd (omega arith)) ∙ pass 47 0 97 (116 ∷ 97 ∷ 47 ∷ T) (λ same. absurd (omega arith))
    ∙ pass 47 0 116 (97 ∷ 47 ∷ T) (λ same. absurd (omega arith)) ∙ pass 47 0 97 (47 ∷ T) (λ same. absurd (omega arith)) ∙ ends 47 0 T

-- the text after the index, without the dot
abbrev pub after_dot : ℕ → List ℕ
after_dot width = if nat_lt width 256 then codes "p/" ++ decimal width else []

pub index_read : (n width : ℕ) → n < 2 ^ 64 → number_until 46 0 (index_text n ++ width_text width) ≡ (n, after_dot width)
index_read n width h =
    on_index n (width_text width) h
    ∙ ⊎_elim
    (λ (part : width < 256). rw (lt-ltb width 256 part) (ends 46 n (112 ∷ 47 ∷ decimal width)))
    (λ (full : 256 ≤ width). rw (le-ltb width 256 full) (stops 46 n))
    (cases_lt width 256)

pub width_read : (width : ℕ) → number_until 46 0 (after_dot width) ≡ (width_number width, [])
width_read width =
    ⊎_elim
    (λ (part : width < 256). rw (lt-ltb width 256 part)
    (pass 46 0 112 (47 ∷ decimal width) (λ same. absurd (omega arith)) ∙ pass 46 0 47 (decimal width) (λ same. absurd (omega arith))
    ∙ ap (number_until 46 0) (sym (append-nil (decimal width)))
    ∙ on_decimal 46 width [] (omega arith) (omega arith) ∙ stops 46 width))
    (λ (full : 256 ≤ width). rw (le-ltb width 256 full) (stops 46 0))
    (cases_lt width 256)

-- a name without its first word
abbrev rest_of : Tile → List ℕ
rest_of tile = content_text tile.content ++ 47 ∷ (index_text tile.index ++ width_text tile.width)

without_first : (tile : Tile) → drop 5 (name_text tile) ≡ rest_of tile
without_first tile = drop-append_seam (codes "tile/") (rest_of tile)

pub level_read : (tile : Tile) → IsTile tile → number_until 47 0 (drop 5 (name_text tile)) ≡ (level_number tile.content, index_text tile.index ++ width_text tile.width)
level_read tile is =
    ap (number_until 47 0) (without_first tile) ∙ content_read tile.content (index_text tile.index ++ width_text tile.width) is.content

-- the first byte of the content distinguishes entries from hashes
first_of_decimal : (n : ℕ) (T : List ℕ) → n < 1000 → nat_eq (get_or (decimal n ++ T) 0 0) 100 ≡ false
first_of_decimal n T h =
    ⊎_elim
    (λ (one : n < 10). rw (lt-ltb n 10 one) (ne_eqb (48 + n % 10) 100 (λ same. absurd (omega arith))))
    (λ (more : 10 ≤ n).
    ⊎_elim
    (λ (two : n < 100). rw (le-ltb n 10 more, lt-ltb n 100 two) (ne_eqb (48 + n / 10 % 10) 100 (λ same. absurd (omega arith))))
    (λ (three : 100 ≤ n). rw (le-ltb n 10 more, le-ltb n 100 three) (ne_eqb (48 + n / 100 % 10) 100 (λ same. absurd (omega arith))))
    (cases_lt n 100))
    (cases_lt n 10)

first_of_content : (content : Content) (T : List ℕ) → IsContent content → nat_eq (get_or (content_text content ++ T) 0 0) 100 ≡ is_data content
first_of_content (Hashes level) T few = first_of_decimal level T (omega arith)
first_of_content Entries T few = refl

pub content_told : (tile : Tile) → IsTile tile → nat_eq (get_or (name_text tile) 5 0) 100 ≡ is_data tile.content
content_told tile is =
    ap (λ b. nat_eq b 100) (get_or-append-add (codes "tile/") (rest_of tile) 0 0)
    ∙ first_of_content tile.content (47 ∷ (index_text tile.index ++ width_text tile.width)) is.content

-- ---- two tiles of the same name
same_content : (a b : Content) → is_data a ≡ is_data b → level_number a ≡ level_number b → a ≡ b
same_content (Hashes n) (Hashes m) d l = ap Hashes l
same_content (Hashes n) Entries d l = absurd (false≢true d)
same_content Entries (Hashes m) d l = absurd (false≢true (sym d))
same_content Entries Entries d l = refl

same_width : (a b : ℕ) → 1 ≤ a → a ≤ 256 → 1 ≤ b → b ≤ 256 → width_number a ≡ width_number b → a ≡ b
same_width a b p q r s e = grind (arith, nat_tests, e)

same_tile : (a b : Tile) → a.content ≡ b.content → a.index ≡ b.index → a.width ≡ b.width → a ≡ b
same_tile a b c i w = rw (c, i, w) refl

pub names_differ : NamesDiffer
names_differ tile other is also e =
    let levels : (level_number tile.content, index_text tile.index ++ width_text tile.width) ≡ (level_number other.content, index_text other.index ++ width_text other.width) =
    sym (level_read tile is) ∙ ap (λ t. number_until 47 0 (drop 5 t)) e ∙ level_read other also in
    let indexes : (tile.index, after_dot tile.width) ≡ (other.index, after_dot other.width) =
    sym (index_read tile.index tile.width is.index) ∙ ap (number_until 46 0) (ap (λ p. p.1) levels) ∙ index_read other.index other.width also.index in
    let widths : width_number tile.width ≡ width_number other.width =
    ap (λ p. p.0) (sym (width_read tile.width) ∙ ap (number_until 46 0) (ap (λ p. p.1) indexes) ∙ width_read other.width) in
    same_tile tile other
    (same_content tile.content other.content
    (sym (content_told tile is) ∙ ap (λ t. nat_eq (get_or t 5 0) 100) e ∙ content_told other also) (ap (λ p. p.0) levels))
    (ap (λ p. p.0) indexes)
    (same_width tile.width other.width is.some is.most also.some also.most widths)

-- ---- the steps of the loop
pub stop_at : (end n i b : ℕ) (text : List ℕ) → i < length text → get_or text i 0 ≡ b → b ≡ end → number_until end n (drop i text) ≡ (n, drop (i + 1) text)
stop_at end n i b text h g e =
    ap (number_until end n) (drop_more text i 0 h) ∙ ap (λ k. number_until end n (k ∷ drop (i + 1) text)) (g ∙ e) ∙ ends end n (drop (i + 1) text)

pub go_on : (end n i b : ℕ) (text : List ℕ) → i < length text → get_or text i 0 ≡ b → (b ≡ end → ⊥)
    → number_until end n (drop i text) ≡ number_until end (with_digit n b) (drop (i + 1) text)
go_on end n i b text h g e =
    ap (number_until end n) (drop_more text i 0 h) ∙ ap (λ k. number_until end n (k ∷ drop (i + 1) text)) g ∙ pass end n b (drop (i + 1) text) e

pub at_end : (end n i : ℕ) (text : List ℕ) → length text ≤ i → number_until end n (drop i text) ≡ (n, [])
at_end end n i text h = ap (number_until end n) (drop_all i text h) ∙ stops end n

digit_grows : (n b : ℕ) → n ≤ with_digit n b
digit_grows n b = grind (arith, nat_tests)

pub number_grows : (end n : ℕ) (text : List ℕ) → n ≤ (number_until end n text).0
unfolding number_until
number_grows end n [] = omega arith
number_grows end n (b ∷ text) =
    ⊎_elim
    (λ (here : (nat_eq b end ≡ true) × (b ≡ end)). rw here.0 (omega arith))
    (λ (on : (nat_eq b end ≡ false) × (b ≢ end)). rw on.0 (omega (arith, digit_grows n b, number_grows end (with_digit n b) text)))
    (eqb_tells b end)

pub too_big : (end n i b : ℕ) (text : List ℕ) → i < length text → get_or text i 0 ≡ b → (b ≡ end → ⊥) → 2 ^ 64 ≤ with_digit n b
    → 2 ^ 64 ≤ (number_until end n (drop i text)).0
too_big end n i b text h g e big =
    omega (arith, ap (λ p. p.0) (go_on end n i b text h g e), number_grows end (with_digit n b) (drop (i + 1) text), big)

-- ---- a text that is a tile's name
pub record IsToldBy (text : List ℕ) (tile : Tile) : Type 0 where
  pub content : nat_eq (get_or text 5 0) 100 ≡ is_data tile.content
  pub level : (number_until 47 0 (drop 5 text)).0 ≡ level_number tile.content
  pub index : (number_until 46 0 (number_until 47 0 (drop 5 text)).1).0 ≡ tile.index
  pub width : (number_until 46 0 (number_until 46 0 (number_until 47 0 (drop 5 text)).1).1).0 ≡ width_number tile.width

pub told : (text : List ℕ) (tile : Tile) → IsTile tile → name_text tile ≡ text → IsToldBy text tile
told text tile is e =
    let level = ap (λ t. number_until 47 0 (drop 5 t)) (sym e) ∙ level_read tile is in
    let index = ap (number_until 46 0) (ap (λ p. p.1) level) ∙ index_read tile.index tile.width is.index in
    let width = ap (number_until 46 0) (ap (λ p. p.1) index) ∙ width_read tile.width in
    record {
      content = ap (λ t. nat_eq (get_or t 5 0) 100) (sym e) ∙ content_told tile is;
      level = ap (λ p. p.0) level;
      index = ap (λ p. p.0) index;
      width = ap (λ p. p.0) width;
    }

pub small_level : (content : Content) → IsContent content → level_number content ≤ 63
small_level (Hashes level) h = h
small_level Entries h = omega arith

pub small_width : (width : ℕ) → width_number width < 256
small_width width = grind (arith, nat_tests)

pub long_enough : (tile : Tile) → 5 < length (name_text tile)
long_enough tile =
    omega (arith, length-append (codes "tile/") (rest_of tile), length-append (content_text tile.content) (47 ∷ (index_text tile.index ++ width_text tile.width)))

-- ---- the steps of the writer
pub groups_less : (text : List ℕ) (groups n : ℕ) → (groups ≡ 0) ⊎ (n ≡ 0) → text ≡ text ++ leading_groups groups n
groups_less text groups n (inl e) = sym (append-nil text) ∙ ap (λ g. text ++ g) (sym (ap (λ k. leading_groups k n) e ∙ groups_zero n))
groups_less text groups n (inr e) = sym (append-nil text) ∙ ap (λ g. text ++ g) (sym (groups_none groups n e))

pub groups_on : (text : List ℕ) (groups n : ℕ) → 0 < groups → 0 < n
    → (((text ++ leading_groups (groups - 1) (n / 1000)) ++ 120 ∷ []) ++ three_digits (n % 1000)) ++ 47 ∷ [] ≡ text ++ leading_groups groups n
groups_on text groups n g h =
    let more : suc (groups - 1) ≡ groups = omega arith in
    let X = leading_groups (groups - 1) (n / 1000) in
    append_assoc ((text ++ X) ++ 120 ∷ []) (three_digits (n % 1000)) (47 ∷ [])
    ∙ append_assoc (text ++ X) (120 ∷ []) (three_digits (n % 1000) ++ 47 ∷ [])
    ∙ append_assoc text X (group (n % 1000))
    ∙ ap (λ k. text ++ k) (sym (ap (λ k. leading_groups k n) (sym more) ∙ groups_more (groups - 1) n h))

-- ---- the one tile
pub the_one : (text : List ℕ) (result : Option Tile) → ((tile : Tile) → IsTile tile → name_text tile ≡ text → result ≡ Some tile)
    → MatchOption result ((tile : Tile) → IsTile tile → name_text tile ≡ text → ⊥) (λ read. (tile : Tile) → IsTile tile → name_text tile ≡ text → tile ≡ read)
the_one text None f = λ tile is e. absurd (none_some (f tile is e))
  where
    none_some : {x : Tile} → None ≡ Some x → ⊥
    none_some e = grind (arith, common_steps)
the_one text (Some read) f = λ tile is e. sym (some_some (f tile is e))
  where
    some_some : {x y : Tile} → Some x ≡ Some y → x ≡ y
    some_some e = grind (arith, common_steps)

behind_first : (text : List ℕ) → take (length text - 5) (drop 5 text) ≡ drop 5 text
behind_first text = take_rest text 5

pub numbers : (text : List ℕ) (tile : Tile) (entries : Bool) (level index width : ℕ) (behind_level behind_index : List ℕ) → IsToldBy text tile
    → entries ≡ nat_eq (get_or text 5 0) 100
    → level ≡ (number_until 47 0 (take (length text - 5) (drop 5 text))).0 → behind_level ≡ (number_until 47 0 (take (length text - 5) (drop 5 text))).1
    → index ≡ (number_until 46 0 behind_level).0 → behind_index ≡ (number_until 46 0 behind_level).1
    → width ≡ (number_until 46 0 behind_index).0 → HasNumbers tile entries level index width
numbers text tile entries level index width behind_level behind_index t d l bl i bi w =
    let rest = ap (number_until 47 0) (behind_first text) in
    let here = bl ∙ ap (λ p. p.1) rest in
    let there = bi ∙ ap (λ x. (number_until 46 0 x).1) here in
    record {
      content = d ∙ t.content;
      level = l ∙ ap (λ p. p.0) rest ∙ t.level;
      index = i ∙ ap (λ x. (number_until 46 0 x).0) here ∙ t.index;
      width = w ∙ ap (λ x. (number_until 46 0 x).0) there ∙ t.width;
    }

-- each number is small, so none of them stops the reader
pub small_numbers : (text : List ℕ) (tile : Tile) (behind_level behind_index : List ℕ) → IsTile tile → IsToldBy text tile
    → behind_level ≡ (number_until 47 0 (take (length text - 5) (drop 5 text))).1 → behind_index ≡ (number_until 46 0 behind_level).1
    → ((number_until 46 0 behind_level).0 < 2 ^ 64) × ((number_until 46 0 behind_index).0 < 2 ^ 64)
small_numbers text tile behind_level behind_index is t bl bi =
    let rest = ap (number_until 47 0) (behind_first text) in
    let here = bl ∙ ap (λ p. p.1) rest in
    let there = bi ∙ ap (λ x. (number_until 46 0 x).1) here in (
      omega (arith, ap (λ x. (number_until 46 0 x).0) here, t.index, is.index),
      omega (arith, ap (λ x. (number_until 46 0 x).0) there, t.width, small_width tile.width),
    )

pub small_first : (text : List ℕ) (tile : Tile) → IsTile tile → IsToldBy text tile → (number_until 47 0 (take (length text - 5) (drop 5 text))).0 < 2 ^ 64
small_first text tile is t =
    omega (arith, ap (λ x. (number_until 47 0 x).0) (behind_first text), t.level, small_level tile.content is.content)
