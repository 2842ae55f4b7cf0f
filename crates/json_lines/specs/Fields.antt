-- The value under a key of a JSON object, by its type.
use Rattle.std.specs.Prelude.{ℕ, List, [], ◌∷◌, length, Option, Some, None, option_map, option_and_then, ◌==◌, if◌then◌else◌}
use Rattle.std.specs.Result.{result_ok}
use Rattle.serde_json.specs.Data.{Data, Items, no_items, item}
use Rattle.serde_json.specs.Find.{get, as_str, as_number, as_u64, as_array}
use Rattle.base64.specs.Engines.{standard}
use Rattle.base64.specs.GeneralPurpose.{decode_of}

-- the text under a key
abbrev pub text_at : List ℕ → Data → Option (List ℕ)
text_at key d = option_and_then as_str (get key d)

-- the number under a key: an integer from 0 to 2^64 - 1, written without fraction and exponent
abbrev pub number_at : List ℕ → Data → Option ℕ
number_at key d = option_and_then as_u64 (option_and_then as_number (get key d))

-- the bytes whose base64 with padding is this text, read strictly (RFC 4648, section 4)
unfoldable pub bytes_of : List ℕ → Option (List ℕ)
bytes_of text = result_ok (decode_of standard text)

-- the bytes that a value represents: a string of base64
abbrev pub bytes_in : Data → Option (List ℕ)
bytes_in d = option_and_then bytes_of (as_str d)

-- the bytes under a key
abbrev pub bytes_at : List ℕ → Data → Option (List ℕ)
bytes_at key d = option_and_then bytes_in (get key d)

-- bytes that are a hash: 32 of them
abbrev pub hash_of : List ℕ → Option (List ℕ)
hash_of bytes = if length bytes == 32 then Some bytes else None

-- the hash that a value represents
abbrev pub hash_in : Data → Option (List ℕ)
hash_in d = option_and_then hash_of (bytes_in d)

-- the hash under a key
abbrev pub hash_at : List ℕ → Data → Option (List ℕ)
hash_at key d = option_and_then hash_in (get key d)

-- the results of f for the items of an array, if each item has a result
abbrev pub each_item : (Data → Option (List ℕ)) → Items → Option (List (List ℕ))
each_item f no_items = Some []
each_item f (item d ds) = option_and_then (λ b. option_map (λ bs. b ∷ bs) (each_item f ds)) (f d)

-- the bytes that the items of an array represent
abbrev pub bytes_of_items : Items → Option (List (List ℕ))
bytes_of_items ds = each_item bytes_in ds

-- the hashes that the items of an array represent
abbrev pub hashes_of_items : Items → Option (List (List ℕ))
hashes_of_items ds = each_item hash_in ds

-- the array of bytes under a key
abbrev pub bytes_list_at : List ℕ → Data → Option (List (List ℕ))
bytes_list_at key d = option_and_then bytes_of_items (option_and_then as_array (get key d))

-- the array of hashes under a key
abbrev pub hashes_at : List ℕ → Data → Option (List (List ℕ))
hashes_at key d = option_and_then hashes_of_items (option_and_then as_array (get key d))
