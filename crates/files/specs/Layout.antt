-- The strip file of edition 1: bodies packed from byte 0, then entries of 32 bytes, then a trailer of 16.
use Rattle.std.specs.Prelude.{ℕ, ◌+◌, ◌-◌, ◌*◌, List, map, length, take, drop, sum, slice_index}
use Rattle.std.specs.List.{range_with_len}

abbrev pub byte : List ℕ → ℕ → ℕ
byte bs k = slice_index bs k

-- numbers of two and of four bytes, most significant first
abbrev pub be16 : List ℕ → ℕ → ℕ
be16 bs k = byte bs k * 256 + byte bs (k + 1)

abbrev pub be32 : List ℕ → ℕ → ℕ
be32 bs k = be16 bs k * 65536 + be16 bs (k + 2)

-- the n bytes from byte k on
abbrev pub part : List ℕ → (k n : ℕ) → List ℕ
part bs k n = take n (drop k bs)

-- the trailer is the last 16 bytes
abbrev pub trailer : List ℕ → List ℕ
trailer bs = part bs (length bs - 16) 16

-- the fields of a trailer
abbrev pub entries_start : List ℕ → ℕ
entries_start t = be32 t 0

abbrev pub count : List ℕ → ℕ
count t = be16 t 4

abbrev pub edition : List ℕ → ℕ
edition t = byte t 6

abbrev pub spare : List ℕ → ℕ
spare t = byte t 7

abbrev pub total_rows : List ℕ → ℕ
total_rows t = be32 t 8

abbrev pub mark : List ℕ → ℕ
mark t = be32 t 12

-- how many entries a file may have, and how many it has
abbrev pub most_entries : ℕ
most_entries = 256

abbrev pub entries : List ℕ → ℕ
entries bs = count (trailer bs)

-- entry i is 32 bytes
abbrev pub entry_start : List ℕ → ℕ → ℕ
entry_start bs i = entries_start (trailer bs) + 32 * i

abbrev pub entry : List ℕ → ℕ → List ℕ
entry bs i = part bs (entry_start bs i) 32

-- the bytes of all entries
unfoldable pub slots : List ℕ → List (List ℕ)
slots bs = map (entry bs) (range_with_len 0 (entries bs))

-- the fields of an entry
abbrev pub number : List ℕ → ℕ
number e = be16 e 0

abbrev pub station : List ℕ → ℕ
station e = byte e 2

abbrev pub pile : List ℕ → ℕ
pile e = byte e 3

abbrev pub rows : List ℕ → ℕ
rows e = be32 e 4

abbrev pub body_start : List ℕ → ℕ
body_start e = be32 e 8

abbrev pub zeros : List ℕ → ℕ
zeros e = be32 e 12

abbrev pub stamp : List ℕ → List ℕ
stamp e = part e 16 16

-- entry i's body
abbrev pub body : List ℕ → ℕ → List ℕ
body bs i = part bs (body_start (entry bs i)) (16 * rows (entry bs i))

-- the rows of the first n entries together
unfoldable pub rows_before : List ℕ → ℕ → ℕ
rows_before bs n = sum (map (λ i. rows (entry bs i)) (range_with_len 0 n))
