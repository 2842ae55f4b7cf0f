-- Tiles that the caller passes: the first fault, and the hashes of each tile.
use Rattle.std.proofs.Common.{◌≡◌, ℕ, ◌+◌, ◌-◌, ◌*◌, ◌/◌, ◌^◌, ◌<◌, ◌≤◌, refl, sym, ◌∙◌, ap, subst, arith, Bool, true, false, ◌&&◌, nat_eq, nat_le, nat_lt, List, [], ◌∷◌, length, take, drop, replicate, Some, None, Result, Vec}
use Rattle.std.specs.Prelude.{All, IfErr}
use Rattle.std.specs.Result.{IsErrAnd}
use Rattle.std.proofs.lemmas.Result.{err_from_is_err_and}
use Rattle.std.proofs.lemmas.Bool.{lt-ltb, ltb-true, le-leb, leb-true, eq-eqb, eqb-true, ne_eqb}
use Rattle.std.proofs.lemmas.List.Elements.{All-nil, All-cons, All-head, All-tail}
use Rattle.ct_tree.specs.Tree.{mth}
use Rattle.ct_tiles.specs.Needed.{GivesTile}
use Rattle.ct_tiles.specs.Handed.{handed_fault, handed_hash, has_hash, IsTileOf, AreTilesOf, contents_in}
use Rattle.ct_tiles.specs.declared.needed.NeededTile.{NeededTile}
use Rattle.ct_tiles.specs.declared.handed.HandedFault.{HandedFault}
use Rattle.ct_tiles.specs.declared.handed.HandedFault.TheVariants.{Missing, BadLength}

-- ---- the first fault
pub no_tiles : (contents : List (List ℕ)) → handed_fault [] contents ≡ None
unfolding handed_fault
no_tiles contents = refl

pub missing : (tile : NeededTile) (tiles : List NeededTile) → handed_fault (tile ∷ tiles) [] ≡ Some (Missing tile)
unfolding handed_fault
missing tile tiles = refl

pub right_length : (tile : NeededTile) (tiles : List NeededTile) (content : List ℕ) (contents : List (List ℕ)) → length content ≡ 32 * tile.width
    → handed_fault (tile ∷ tiles) (content ∷ contents) ≡ handed_fault tiles contents
unfolding handed_fault
right_length tile tiles content contents e = rw (eq-eqb (length content) (32 * tile.width) e) refl

pub bad_length : (tile : NeededTile) (tiles : List NeededTile) (content : List ℕ) (contents : List (List ℕ)) → (length content ≡ 32 * tile.width → ⊥)
    → handed_fault (tile ∷ tiles) (content ∷ contents) ≡ Some (BadLength tile)
unfolding handed_fault
bad_length tile tiles content contents n = rw (ne_eqb (length content) (32 * tile.width) n) refl

-- if each tile has its own bytes, none has a fault
pub own_bytes : (H : List ℕ → List ℕ) (D : List (List ℕ)) (tiles : List NeededTile) (contents : List (List ℕ)) → AreTilesOf H D tiles contents
    → handed_fault tiles contents ≡ None
own_bytes H D [] contents a = no_tiles contents
own_bytes H D (tile ∷ tiles) [] a = absurd a
own_bytes H D (tile ∷ tiles) (content ∷ contents) a =
    right_length tile tiles content contents a.0.size ∙ own_bytes H D tiles contents a.1

-- ---- the hashes of the tiles
pub no_hash : (contents : List (List ℕ)) (level index : ℕ) → handed_hash [] contents level index ≡ replicate 32 0
unfolding handed_hash
no_hash contents level index = refl

pub no_content : (tile : NeededTile) (tiles : List NeededTile) (level index : ℕ) → handed_hash (tile ∷ tiles) [] level index ≡ replicate 32 0
unfolding handed_hash
no_content tile tiles level index = refl

pub hash_here : (tile : NeededTile) (tiles : List NeededTile) (content : List ℕ) (contents : List (List ℕ)) (level index : ℕ)
    → has_hash tile content level index ≡ true
    → handed_hash (tile ∷ tiles) (content ∷ contents) level index ≡ take 32 (drop (32 * (index - 256 * tile.index)) content)
unfolding handed_hash
hash_here tile tiles content contents level index e = rw e refl

pub hash_behind : (tile : NeededTile) (tiles : List NeededTile) (content : List ℕ) (contents : List (List ℕ)) (level index : ℕ)
    → has_hash tile content level index ≡ false
    → handed_hash (tile ∷ tiles) (content ∷ contents) level index ≡ handed_hash tiles contents level index
unfolding handed_hash
hash_behind tile tiles content contents level index e = rw e refl

both : (a b : Bool) → a && b ≡ true → (a ≡ true) × (b ≡ true)
both true true e = (refl, refl)
both true false e = cc
both false b e = cc

has_parts : (tile : NeededTile) (content : List ℕ) (level index : ℕ) → has_hash tile content level index ≡ true
    → (tile.level ≡ level) × (256 * tile.index ≤ index) × (index - 256 * tile.index < length content / 32)
has_parts tile content level index e =
    let first = both (nat_eq tile.level level) (nat_le tile.index (index / 256) && nat_lt (index - 256 * tile.index) (length content / 32)) e in
    let second = both (nat_le tile.index (index / 256)) (nat_lt (index - 256 * tile.index) (length content / 32)) first.1 in
    let from = leb-true tile.index (index / 256) second.0 in (
      eqb-true tile.level level first.0,
      omega (arith, from),
      ltb-true (index - 256 * tile.index) (length content / 32) second.1,
    )

has_own : (tile : NeededTile) (content : List ℕ) (k : ℕ) → length content ≡ 32 * tile.width → k < tile.width
    → has_hash tile content tile.level (256 * tile.index + k) ≡ true
has_own tile content k size below =
    let from : tile.index ≤ (256 * tile.index + k) / 256 = omega arith in
    let inside : 256 * tile.index + k - 256 * tile.index < length content / 32 = omega (arith, size, below) in
    rw (
      eq-eqb tile.level tile.level refl,
      le-leb tile.index ((256 * tile.index + k) / 256) from,
      lt-ltb (256 * tile.index + k - 256 * tile.index) (length content / 32) inside,
    ) refl

module _ (H : List ℕ → List ℕ) (D : List (List ℕ)) where
  -- the source has the right hash for an index of a level
  abbrev IsRight : (ℕ → ℕ → List ℕ) → ℕ → ℕ → Type 0
  IsRight given level index = given level index ≡ mth H (take (256 ^ level) (drop (256 ^ level * index) D))

  -- the hash of a tile that has it
  from_tile : (tile : NeededTile) (content : List ℕ) (level index : ℕ) → IsTileOf H D tile content → has_hash tile content level index ≡ true
      → take 32 (drop (32 * (index - 256 * tile.index)) content) ≡ mth H (take (256 ^ level) (drop (256 ^ level * index) D))
  from_tile tile content level index is e =
      let k = index - 256 * tile.index in
      let parts = has_parts tile content level index e in
      let same : tile.level ≡ level = parts.0 in
      let below : k < tile.width = omega (arith, parts.2, is.size) in
      let place : 256 * tile.index + k ≡ index = omega (arith, parts.1) in
      is.hash k below
      ∙ ap (λ (i : ℕ). mth H (take (256 ^ tile.level) (drop (256 ^ tile.level * i) D))) place
      ∙ ap (λ (l : ℕ). mth H (take (256 ^ l) (drop (256 ^ l * index) D))) same

  -- the hashes that the first tile has, and those that the others have
  passed_on : (tile : NeededTile) (tiles : List NeededTile) (content : List ℕ) (contents : List (List ℕ)) (level index : ℕ) → IsTileOf H D tile content
      → IsRight (handed_hash tiles contents) level index → IsRight (handed_hash (tile ∷ tiles) (content ∷ contents)) level index
  passed_on tile tiles content contents level index is right = by_test (has_hash tile content level index) refl
    where
      by_test : (b : Bool) → has_hash tile content level index ≡ b → IsRight (handed_hash (tile ∷ tiles) (content ∷ contents)) level index
      by_test true e = hash_here tile tiles content contents level index e ∙ from_tile tile content level index is e
      by_test false e = hash_behind tile tiles content contents level index e ∙ right

  own_hash : (tile : NeededTile) (tiles : List NeededTile) (content : List ℕ) (contents : List (List ℕ)) → IsTileOf H D tile content
      → GivesTile H (handed_hash (tile ∷ tiles) (content ∷ contents)) D tile
  own_hash tile tiles content contents is k below =
      let e = has_own tile content k is.size below in
      hash_here tile tiles content contents tile.level (256 * tile.index + k) e
      ∙ from_tile tile content tile.level (256 * tile.index + k) is e

  others_too : (tile : NeededTile) (tiles : List NeededTile) (content : List ℕ) (contents : List (List ℕ)) (some : List NeededTile) → IsTileOf H D tile content
      → All (GivesTile H (handed_hash tiles contents) D) some → All (GivesTile H (handed_hash (tile ∷ tiles) (content ∷ contents)) D) some
  others_too tile tiles content contents [] is a = All-nil (GivesTile H (handed_hash (tile ∷ tiles) (content ∷ contents)) D)
  others_too tile tiles content contents (one ∷ some) is a =
      let P = GivesTile H (handed_hash tiles contents) D in
      All-cons (GivesTile H (handed_hash (tile ∷ tiles) (content ∷ contents)) D) one some
      (λ k below. passed_on tile tiles content contents one.level (256 * one.index + k) is (All-head P one some a k below))
      (others_too tile tiles content contents some is (All-tail P one some a))

  -- tiles with their own bytes give each tile of the list
  pub each_given : (tiles : List NeededTile) (contents : List (List ℕ)) → AreTilesOf H D tiles contents
      → All (GivesTile H (handed_hash tiles contents) D) tiles
  each_given [] contents a = All-nil (GivesTile H (handed_hash [] contents) D)
  each_given (tile ∷ tiles) [] a = absurd a
  each_given (tile ∷ tiles) (content ∷ contents) a =
      All-cons (GivesTile H (handed_hash (tile ∷ tiles) (content ∷ contents)) D) tile tiles
      (own_hash tile tiles content contents a.0)
      (others_too tile tiles content contents tiles a.0 (each_given tiles contents a.1))

-- ---- the walks over the two lists, step by step
none_of : {X : Type 0} (xs : List X) → length xs ≡ 0 → xs ≡ []
none_of [] e = refl
none_of (x ∷ xs) e = absurd (omega (arith, e))

pub fault_none : (ts : List NeededTile) (bs : List (List ℕ)) → length ts ≡ 0 → handed_fault ts bs ≡ None
fault_none ts bs e = ap (λ x. handed_fault x bs) (none_of ts e) ∙ no_tiles bs

pub fault_missing : {A : Type 0} (ts more : List NeededTile) (t : NeededTile) (cs : List (Vec ℕ A)) → ts ≡ t ∷ more → length cs ≡ 0
    → handed_fault ts (contents_in cs) ≡ Some (Missing t)
fault_missing ts more t cs e n =
    ap (λ x. handed_fault x (contents_in cs)) e ∙ ap (λ x. handed_fault (t ∷ more) (contents_in x)) (none_of cs n) ∙ missing t more

pub hash_missing : {A : Type 0} (ts more : List NeededTile) (t : NeededTile) (cs : List (Vec ℕ A)) (level index : ℕ) → ts ≡ t ∷ more → length cs ≡ 0
    → handed_hash ts (contents_in cs) level index ≡ replicate 32 0
hash_missing ts more t cs level index e n =
    ap (λ x. handed_hash x (contents_in cs) level index) e
    ∙ ap (λ x. handed_hash (t ∷ more) (contents_in x) level index) (none_of cs n) ∙ no_content t more level index

module _ {A : Type 0} (ts more : List NeededTile) (t : NeededTile) (e : ts ≡ t ∷ more) (cs rest : List (Vec ℕ A)) (c : Vec ℕ A) where
  abbrev Rest : Type 0
  Rest = cs ≡ c ∷ rest

  pub fault_next : Rest → length c.items ≡ 32 * t.width → handed_fault ts (contents_in cs) ≡ handed_fault more (contents_in rest)
  fault_next f l =
      ap (λ x. handed_fault x (contents_in cs)) e ∙ ap (λ x. handed_fault (t ∷ more) (contents_in x)) f
      ∙ right_length t more c.items (contents_in rest) l

  pub fault_bad : Rest → (length c.items ≡ 32 * t.width → ⊥) → handed_fault ts (contents_in cs) ≡ Some (BadLength t)
  fault_bad f l =
      ap (λ x. handed_fault x (contents_in cs)) e ∙ ap (λ x. handed_fault (t ∷ more) (contents_in x)) f
      ∙ bad_length t more c.items (contents_in rest) l

  pub hash_next : (level index : ℕ) → Rest → has_hash t c.items level index ≡ false
      → handed_hash ts (contents_in cs) level index ≡ handed_hash more (contents_in rest) level index
  hash_next level index f lacks =
      ap (λ x. handed_hash x (contents_in cs) level index) e
      ∙ ap (λ x. handed_hash (t ∷ more) (contents_in x) level index) f ∙ hash_behind t more c.items (contents_in rest) level index lacks

  pub hash_found : (level index : ℕ) → Rest → has_hash t c.items level index ≡ true
      → handed_hash ts (contents_in cs) level index ≡ take 32 (drop (32 * (index - 256 * t.index)) c.items)
  hash_found level index f has =
      ap (λ x. handed_hash x (contents_in cs) level index) e
      ∙ ap (λ x. handed_hash (t ∷ more) (contents_in x) level index) f ∙ hash_here t more c.items (contents_in rest) level index has

pub hash_none : (ts : List NeededTile) (bs : List (List ℕ)) (level index : ℕ) → length ts ≡ 0 → handed_hash ts bs level index ≡ replicate 32 0
hash_none ts bs level index e = ap (λ x. handed_hash x bs level index) (none_of ts e) ∙ no_hash bs level index

-- ---- faults
-- tiles with their own bytes are not refused
pub own_not_refused : (H : List ℕ → List ℕ) (D : List (List ℕ)) (tiles : List NeededTile) (contents : List (List ℕ)) (fault : HandedFault)
    → handed_fault tiles contents ≡ Some fault → AreTilesOf H D tiles contents → ⊥
own_not_refused H D tiles contents fault e are =
    let none : handed_fault tiles contents ≡ None = own_bytes H D tiles contents are in
    cc

-- the exit of a `?`, with the fault that was met
pub left_with : {T E : Type 0} (P : E → Type 0) (f : E) (r : Result T E) → IsErrAnd r (λ e. e ≡ f) → P f → IfErr r P
left_with {T} {E} P f r met holds = let p = err_from_is_err_and r met in subst (λ (r : Result T E). IfErr r P) (sym p.1) (subst P (sym p.2) holds)
