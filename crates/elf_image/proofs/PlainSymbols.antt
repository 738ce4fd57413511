-- The symbols of a plain file are read as they were put.
use Rattle.std.proofs.Common.{◌≡◌, ◌≢◌, ℕ, suc, ◌+◌, ◌*◌, ◌^◌, ◌<◌, true, not, ◌==◌, ◌&&◌, cond, List, [], ◌∷◌, ◌++◌, length, map, flat_map, filter, take_while, refl, sym, ◌∙◌, ap, append_assoc, arith}
use Rattle.std.specs.List.{AllByRecursion, list_all, list_any}
use Rattle.std.proofs.lemmas.Bool.{ne_eqb, or_right}
use Rattle.std.proofs.lemmas.List.{length-append}
use Rattle.std.proofs.lemmas.List.Sums.{take_while-cons}
use Rattle.std.proofs.Math.Seq.{drop-append_seam}
use Rattle.elf_image.specs.Image.{symbol_in}
use Rattle.elf_image.specs.Elf.{symbol_header, headers_from, is_defined, entry_of, has_end, field2, field4}
use Rattle.elf_image.specs.Plain.{entries_from, symbol_bytes, names_bytes, words_bytes}
use Rattle.elf_image.specs.declared.symbol.Symbol.{Symbol}
use Rattle.elf_image.specs.declared.symbol.Entry.{Entry}
use Rattle.elf_image.specs.declared.headers.SymbolHeader.{SymbolHeader}
use Rattle.elf_image.proofs.Fields.{number4, symbol_header-after, headers_from-cons}

-- ---- the table

pub record FitsEntry (e : Entry) : Type 0 where
  pub place : e.place < 2 ^ 32
  pub value : e.value < 2 ^ 32

put_symbol : (e : Entry) (rest : List ℕ) → FitsEntry e → symbol_header (symbol_bytes e ++ rest) 0 ≡ record { name = e.place; value = e.value; section = 1 }
unfolding symbol_header field2 field4
put_symbol e rest fits =
    ap (λ (n : ℕ). header n (field4 (symbol_bytes e ++ rest) 4)) (number4 e.place [] fits.place) ∙ ap (header e.place) (number4 e.value [] fits.value)
  where
    header : ℕ → ℕ → SymbolHeader
    header n v = record { name = n; value = v; section = 1 }

-- a symbol at the front of the table
one_more : (file : List ℕ) (place n : ℕ) (e : Entry) → symbol_header file place ≡ record { name = e.place; value = e.value; section = 1 }
    → map entry_of (filter is_defined (headers_from (symbol_header file) place 16 (suc n)))
    ≡ e ∷ map entry_of (filter is_defined (headers_from (symbol_header file) (place + 16) 16 n))
one_more file place n e is =
    ap (λ hs. map entry_of (filter is_defined hs)) (headers_from-cons (symbol_header file) place 16 n)
    ∙ ap (λ h. map entry_of (filter is_defined (h ∷ headers_from (symbol_header file) (place + 16) 16 n))) is

pub symbols_read : (a : List ℕ) (es : List Entry) (rest : List ℕ) → AllByRecursion FitsEntry es
    → map entry_of (filter is_defined (headers_from (symbol_header (a ++ (flat_map symbol_bytes es ++ rest))) (length a) 16 (length es))) ≡ es
unfolding headers_from
symbols_read a [] rest fits = refl
symbols_read a (e ∷ es) rest fits =
    let here : a ++ (flat_map symbol_bytes (e ∷ es) ++ rest) ≡ a ++ (symbol_bytes e ++ (flat_map symbol_bytes es ++ rest)) =
    ap (λ xs. a ++ xs) (append_assoc (symbol_bytes e) (flat_map symbol_bytes es) rest) in
    let later : a ++ (symbol_bytes e ++ (flat_map symbol_bytes es ++ rest)) ≡ (a ++ symbol_bytes e) ++ (flat_map symbol_bytes es ++ rest) =
    sym (append_assoc a (symbol_bytes e) (flat_map symbol_bytes es ++ rest)) in
    let next : length a + 16 ≡ length (a ++ symbol_bytes e) = sym (length-append a (symbol_bytes e)) in
    ap (λ file. map entry_of (filter is_defined (headers_from (symbol_header file) (length a) 16 (suc (length es))))) here
    ∙ one_more (a ++ (symbol_bytes e ++ (flat_map symbol_bytes es ++ rest))) (length a) (length es) e
    (symbol_header-after a (symbol_bytes e ++ (flat_map symbol_bytes es ++ rest)) ∙ put_symbol e (flat_map symbol_bytes es ++ rest) fits.0)
    ∙ ap (λ file. e ∷ map entry_of (filter is_defined (headers_from (symbol_header file) (length a + 16) 16 (length es)))) later
    ∙ ap (λ place. e ∷ map entry_of (filter is_defined (headers_from (symbol_header ((a ++ symbol_bytes e) ++ (flat_map symbol_bytes es ++ rest))) place 16 (length es)))) next
    ∙ ap (λ xs. e ∷ xs) (symbols_read (a ++ symbol_bytes e) es rest fits.1)

-- ---- the names

front_name : (name rest : List ℕ) → AllByRecursion (λ byte. byte ≢ 0) name → take_while (λ byte. not (byte == 0)) (name ++ 0 ∷ rest) ≡ name
front_name [] rest whole = take_while-cons (λ byte. not (byte == 0)) 0 rest
front_name (b ∷ name) rest whole =
    take_while-cons (λ byte. not (byte == 0)) b (name ++ 0 ∷ rest)
    ∙ ap (λ t. cond (not t) (b ∷ take_while (λ byte. not (byte == 0)) (name ++ 0 ∷ rest)) []) (ne_eqb b 0 whole.0)
    ∙ ap (λ xs. b ∷ xs) (front_name name rest whole.1)

zero_behind : (name rest : List ℕ) → list_any (λ byte. byte == 0) (name ++ 0 ∷ rest) ≡ true
zero_behind [] rest = refl
zero_behind (b ∷ name) rest = or_right (b == 0) (list_any (λ byte. byte == 0) (name ++ 0 ∷ rest)) (zero_behind name rest)

regrouped : (q name rest : List ℕ) → q ++ (name ++ 0 ∷ rest) ≡ (q ++ (name ++ 0 ∷ [])) ++ rest
regrouped q name rest =
    ap (λ xs. q ++ xs) (sym (append_assoc name (0 ∷ []) rest)) ∙ sym (append_assoc q (name ++ 0 ∷ []) rest)

regrouped_length : (q name : List ℕ) → length q + length name + 1 ≡ length (q ++ (name ++ 0 ∷ []))
regrouped_length q name = omega (arith, length-append q (name ++ 0 ∷ []), length-append name (0 ∷ []))

pub names_read : (q : List ℕ) (symbols : List Symbol) → AllByRecursion (λ symbol. AllByRecursion (λ byte. byte ≢ 0) symbol.name) symbols
    → map (symbol_in (q ++ names_bytes symbols)) (entries_from (length q) symbols) ≡ symbols
names_read q [] plain = refl
names_read q (s ∷ symbols) plain =
    let names = q ++ (s.name ++ 0 ∷ names_bytes symbols) in
    ap (λ (n : List ℕ). record { name = n; value = s.value } ∷ map (symbol_in (q ++ (s.name ++ 0 ∷ names_bytes symbols))) (entries_from (length q + length s.name + 1) symbols))
    (ap (take_while (λ byte. not (byte == 0))) (drop-append_seam q (s.name ++ 0 ∷ names_bytes symbols)) ∙ front_name s.name (names_bytes symbols) plain.0)
    ∙ ap (λ ns. s ∷ map (symbol_in ns) (entries_from (length q + length s.name + 1) symbols)) (regrouped q s.name (names_bytes symbols))
    ∙ ap (λ place. s ∷ map (symbol_in ((q ++ (s.name ++ 0 ∷ [])) ++ names_bytes symbols)) (entries_from place symbols)) (regrouped_length q s.name)
    ∙ ap (λ xs. s ∷ xs) (names_read (q ++ (s.name ++ 0 ∷ [])) symbols plain.1)

pub names_end : (q : List ℕ) (symbols : List Symbol) → list_all (λ entry. has_end (q ++ names_bytes symbols) entry.place) (entries_from (length q) symbols) ≡ true
names_end q [] = refl
names_end q (s ∷ symbols) =
    ap (λ t. t && list_all (λ entry. has_end (q ++ (s.name ++ 0 ∷ names_bytes symbols)) entry.place) (entries_from (length q + length s.name + 1) symbols))
    (ap (list_any (λ byte. byte == 0)) (drop-append_seam q (s.name ++ 0 ∷ names_bytes symbols)) ∙ zero_behind s.name (names_bytes symbols))
    ∙ ap (λ ns. list_all (λ entry. has_end ns entry.place) (entries_from (length q + length s.name + 1) symbols)) (regrouped q s.name (names_bytes symbols))
    ∙ ap (λ place. list_all (λ entry. has_end ((q ++ (s.name ++ 0 ∷ [])) ++ names_bytes symbols) entry.place) (entries_from place symbols)) (regrouped_length q s.name)
    ∙ names_end (q ++ (s.name ++ 0 ∷ [])) symbols

-- ---- the entries

pub length-entries_from : (place : ℕ) (symbols : List Symbol) → length (entries_from place symbols) ≡ length symbols
length-entries_from place [] = refl
length-entries_from place (s ∷ symbols) = ap suc (length-entries_from (place + length s.name + 1) symbols)

pub entries_fit : (place : ℕ) (symbols : List Symbol) → AllByRecursion (λ symbol. symbol.value < 2 ^ 32) symbols → place + length (names_bytes symbols) < 2 ^ 32
    → AllByRecursion FitsEntry (entries_from place symbols)
entries_fit place [] values end = tt
entries_fit place (s ∷ symbols) values end =
    let size = length-append s.name (0 ∷ names_bytes symbols) in
    (record { place = omega (arith, end); value = values.0 }, entries_fit (place + length s.name + 1) symbols values.1 (omega (arith, end, size)))

pub symbols_bytes_size : (es : List Entry) → length (flat_map symbol_bytes es) ≡ 16 * length es
symbols_bytes_size [] = omega arith
symbols_bytes_size (e ∷ es) = let rest = symbols_bytes_size es in omega (arith, rest)

zero_symbol : (table rest : List ℕ) → symbol_header ((words_bytes (0 ∷ 0 ∷ 0 ∷ 0 ∷ []) ++ table) ++ rest) 0 ≡ record { name = 0; value = 0; section = 0 }
unfolding symbol_header field2 field4
zero_symbol table rest = refl

-- the table begins with a symbol of zeros, which isn't defined
pub table_read : (a : List ℕ) (es : List Entry) (rest : List ℕ) → AllByRecursion FitsEntry es
    → map entry_of (filter is_defined (headers_from (symbol_header (a ++ ((words_bytes (0 ∷ 0 ∷ 0 ∷ 0 ∷ []) ++ flat_map symbol_bytes es) ++ rest))) (length a) 16 (suc (length es)))) ≡ es
table_read a es rest fits =
    let zeros : List ℕ = words_bytes (0 ∷ 0 ∷ 0 ∷ 0 ∷ []) in
    let file : List ℕ = a ++ ((words_bytes (0 ∷ 0 ∷ 0 ∷ 0 ∷ []) ++ flat_map symbol_bytes es) ++ rest) in
    let moved : a ++ ((words_bytes (0 ∷ 0 ∷ 0 ∷ 0 ∷ []) ++ flat_map symbol_bytes es) ++ rest) ≡ (a ++ words_bytes (0 ∷ 0 ∷ 0 ∷ 0 ∷ [])) ++ (flat_map symbol_bytes es ++ rest) =
    ap (λ xs. a ++ xs) (append_assoc (words_bytes (0 ∷ 0 ∷ 0 ∷ 0 ∷ [])) (flat_map symbol_bytes es) rest)
    ∙ sym (append_assoc a (words_bytes (0 ∷ 0 ∷ 0 ∷ 0 ∷ [])) (flat_map symbol_bytes es ++ rest)) in
    let next : length a + 16 ≡ length (a ++ words_bytes (0 ∷ 0 ∷ 0 ∷ 0 ∷ [])) = sym (length-append a (words_bytes (0 ∷ 0 ∷ 0 ∷ 0 ∷ []))) in
    ap (λ hs. map entry_of (filter is_defined hs)) (headers_from-cons (symbol_header file) (length a) 16 (length es))
    ∙ ap (λ h. map entry_of (filter is_defined (h ∷ headers_from (symbol_header file) (length a + 16) 16 (length es))))
    (symbol_header-after a ((zeros ++ flat_map symbol_bytes es) ++ rest) ∙ zero_symbol (flat_map symbol_bytes es) rest)
    ∙ ap (λ f. map entry_of (filter is_defined (headers_from (symbol_header f) (length a + 16) 16 (length es)))) moved
    ∙ ap (λ place. map entry_of (filter is_defined (headers_from (symbol_header ((a ++ words_bytes (0 ∷ 0 ∷ 0 ∷ 0 ∷ [])) ++ (flat_map symbol_bytes es ++ rest))) place 16 (length es)))) next
    ∙ symbols_read (a ++ words_bytes (0 ∷ 0 ∷ 0 ∷ 0 ∷ [])) es rest fits
