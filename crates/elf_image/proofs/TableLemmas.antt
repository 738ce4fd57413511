-- Reading a table of headers one by one, and what the tables' fitting says of their places.
use Rattle.std.proofs.Common.{◌≡◌, ℕ, zero, suc, ◌+◌, ◌*◌, ◌<◌, ◌≤◌, ◌%◌, nat_lt, Bool, true, false, cond, ◌&&◌, ◌||◌, ◌==◌, List, length, map, find, Some, None, refl, sym, ◌∙◌, ap, arith}
use Rattle.std.specs.List.{range_with_len}
use Rattle.elf_image.specs.Elf.{headers_from, tables_fit, program_table_of, program_count_of, section_table_of, section_count_of, lies_in_file, field2, symbol_table_fits, names_header_of}
use Rattle.std.proofs.lemmas.Bool.{and_parts, leb-true, ltb-true}
use Rattle.elf_image.specs.declared.headers.SectionHeader.{SectionHeader}

find-from : {H : Type 0} (p : H → Bool) (f : ℕ → H) (from m i : ℕ) → i < m → ((k : ℕ) → k < i → p (f (from + k)) ≡ false)
    → p (f (from + i)) ≡ true → find p (map f (range_with_len from m)) ≡ Some (f (from + i))
find-from p f from zero i below before here = absurd (omega arith)
find-from p f from (suc m) zero below before here =
    let e : from ≡ from + 0 = omega arith in
    ap (λ b. cond b (Some (f from)) (find p (map f (range_with_len (from + 1) m)))) (ap (λ k. p (f k)) e ∙ here) ∙ ap (λ k. Some (f k)) e
find-from p f from (suc m) (suc i) below before here =
    let e : from ≡ from + 0 = omega arith in
    let shift : (k : ℕ) → from + 1 + k ≡ from + suc k = λ k. omega arith in
    ap (λ b. cond b (Some (f from)) (find p (map f (range_with_len (from + 1) m)))) (ap (λ k. p (f k)) e ∙ before 0 (omega arith))
    ∙ find-from p f (from + 1) m i (omega arith) (λ k h. ap (λ j. p (f j)) (shift k) ∙ before (suc k) (omega arith)) (ap (λ j. p (f j)) (shift i) ∙ here)
    ∙ ap (λ j. Some (f j)) (shift i)

find-nowhere : {H : Type 0} (p : H → Bool) (f : ℕ → H) (from m : ℕ) → ((k : ℕ) → k < m → p (f (from + k)) ≡ false) → find p (map f (range_with_len from m)) ≡ None
find-nowhere p f from zero none = refl
find-nowhere p f from (suc m) none =
    let e : from ≡ from + 0 = omega arith in
    let shift : (k : ℕ) → from + 1 + k ≡ from + suc k = λ k. omega arith in
    ap (λ b. cond b (Some (f from)) (find p (map f (range_with_len (from + 1) m)))) (ap (λ k. p (f k)) e ∙ none 0 (omega arith))
    ∙ find-nowhere p f (from + 1) m (λ k h. ap (λ j. p (f j)) (shift k) ∙ none (suc k) (omega arith))

-- the first header that passes
pub find-headers_from : {H : Type 0} (p : H → Bool) (header : ℕ → H) (place size n i : ℕ) → i < n
    → ((k : ℕ) → k < i → p (header (place + size * k)) ≡ false) → p (header (place + size * i)) ≡ true
    → find p (headers_from header place size n) ≡ Some (header (place + size * i))
unfolding headers_from
find-headers_from p header place size n i below before here =
    let e : (k : ℕ) → k ≡ 0 + k = λ k. omega arith in
    find-from p (λ k. header (place + size * k)) 0 n i below (λ k h. ap (λ j. p (header (place + size * j))) (sym (e k)) ∙ before k h) (ap (λ j. p (header (place + size * j))) (sym (e i)) ∙ here)
    ∙ ap (λ j. Some (header (place + size * j))) (sym (e i))

pub find-headers_from-nowhere : {H : Type 0} (p : H → Bool) (header : ℕ → H) (place size n : ℕ)
    → ((k : ℕ) → k < n → p (header (place + size * k)) ≡ false) → find p (headers_from header place size n) ≡ None
unfolding headers_from
find-headers_from-nowhere p header place size n none =
    let e : (k : ℕ) → k ≡ 0 + k = λ k. omega arith in
    find-nowhere p (λ k. header (place + size * k)) 0 n (λ k h. ap (λ j. p (header (place + size * j))) (sym (e k)) ∙ none k h)

-- the tables' places
pub record TablesInFile (bytes : List ℕ) : Type 0 where
  pub programs : program_table_of bytes + 32 * program_count_of bytes ≤ length bytes
  pub sections : section_table_of bytes + 40 * section_count_of bytes ≤ length bytes

pub tables_in_file : (bytes : List ℕ) → tables_fit bytes ≡ true → TablesInFile bytes
unfolding tables_fit
tables_in_file bytes h =
    let sizes = ((program_count_of bytes == 0) || (field2 bytes 42 == 32)) && ((section_count_of bytes == 0) || (field2 bytes 46 == 40)) in
    let programs = lies_in_file bytes (program_table_of bytes) (32 * program_count_of bytes) in
    let fit = and_parts (sizes && programs) (lies_in_file bytes (section_table_of bytes) (40 * section_count_of bytes)) h in
    record { programs = leb-true _ _ (and_parts sizes programs fit.0).1; sections = leb-true _ _ fit.1 }

-- the places of a table of symbols and of their names
pub record SymbolsInFile (bytes : List ℕ) (table : SectionHeader) : Type 0 where
  pub entries : table.offset + table.size ≤ length bytes
  pub link : table.link < section_count_of bytes
  pub names : (names_header_of bytes table).offset + (names_header_of bytes table).size ≤ length bytes

pub symbols_in_file : (bytes : List ℕ) (table : SectionHeader) → symbol_table_fits bytes table ≡ true → SymbolsInFile bytes table
unfolding symbol_table_fits
symbols_in_file bytes table h =
    let front = and_parts
    ((table.entry_size == 16) && (table.size % 16 == 0) && lies_in_file bytes table.offset table.size && nat_lt table.link (section_count_of bytes))
    (lies_in_file bytes (names_header_of bytes table).offset (names_header_of bytes table).size) h in
    let middle = and_parts
    ((table.entry_size == 16) && (table.size % 16 == 0) && lies_in_file bytes table.offset table.size)
    (nat_lt table.link (section_count_of bytes)) front.0 in
    let start = and_parts ((table.entry_size == 16) && (table.size % 16 == 0)) (lies_in_file bytes table.offset table.size) middle.0 in
    record { entries = leb-true _ _ start.1; link = ltb-true _ _ middle.1; names = leb-true _ _ front.1 }
