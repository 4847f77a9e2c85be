-- The bytes of a header hold its fields.
use Rattle.std.proofs.Common.{◌≡◌, ℕ, ◌+◌, ◌≤◌, true, List, ◌++◌, length, take, drop, replicate, refl, sym, ap, ◌∙◌, arith, append_assoc, le-ltb, length-append, Ok}
use Rattle.std.proofs.lemmas.List.{drop-drop, drop_at, take_at}
use Rattle.byteorder.specs.Endian.{little_number, little_bytes}
use Rattle.byteorder.specs.Numbers.{little_number-reads_back}
use Rattle.var_header.specs.declared.header.Header.{Header}
use Rattle.var_header.specs.Header.{IsHeader, back_bytes, front_bytes, header_bytes, header_of, header_read, has_start_id}

module _ (h : Header) (rest : List ℕ) (is : IsHeader h) where
  -- there are 36 bytes before the sizes
  length-front_bytes : length (front_bytes h) ≡ 36
  length-front_bytes =
      let stamp : length h.time_stamp ≡ 16 = is.time_stamp in
      omega (arith, length-append h.time_stamp (replicate 4 0))

  -- what stands behind TimeStamp
  behind_stamp : drop 16 (header_bytes h ++ rest) ≡ h.time_stamp ++ (replicate 4 0 ++ (back_bytes h ++ rest))
  unfolding header_bytes
  behind_stamp = append_assoc (h.time_stamp ++ replicate 4 0) (back_bytes h) rest ∙ append_assoc h.time_stamp (replicate 4 0) (back_bytes h ++ rest)

  -- what stands behind those bytes
  behind_front : drop 36 (header_bytes h ++ rest) ≡ back_bytes h ++ rest
  unfolding header_bytes
  behind_front =
      ap (drop 36) (append_assoc (front_bytes h) (back_bytes h) rest) ∙ drop_at (front_bytes h) (back_bytes h ++ rest) 36 length-front_bytes

  -- what stands further behind them
  behind_more : (n : ℕ) → drop (36 + n) (header_bytes h ++ rest) ≡ drop n (back_bytes h ++ rest)
  behind_more n = sym (drop-drop n 36 (header_bytes h ++ rest)) ∙ ap (drop n) behind_front

  -- the attributes are read again
  attributes_again : little_number 4 (drop 4 (header_bytes h ++ rest)) ≡ h.attributes
  unfolding header_bytes
  attributes_again =
      little_number-reads_back 4 h.attributes (replicate 8 0 ++ ((h.time_stamp ++ replicate 4 0) ++ back_bytes h) ++ rest) is.attributes

  -- the fields are read again
  pub read_again : header_of (header_bytes h ++ rest) ≡ h
  unfolding header_of header_bytes
  read_again =
      let stamp = ap (take 16) behind_stamp ∙ take_at h.time_stamp (replicate 4 0 ++ (back_bytes h ++ rest)) 16 is.time_stamp in
      let name = ap (little_number 4) behind_front ∙ little_number-reads_back 4 h.name_size (little_bytes 4 h.data_size ++ h.vendor_guid ++ rest) is.name_size in
      let size = ap (little_number 4) (behind_more 4) ∙ little_number-reads_back 4 h.data_size (h.vendor_guid ++ rest) is.data_size in
      let guid = ap (take 16) (behind_more 8) ∙ take_at h.vendor_guid rest 16 is.vendor_guid in
      λ i. record {
        state = h.state;
        attributes = attributes_again i;
        time_stamp = stamp i;
        name_size = name i;
        data_size = size i;
        vendor_guid = guid i;
      }

  -- the StartId is read again
  pub start_id_again : has_start_id (header_bytes h ++ rest) ≡ true
  unfolding header_bytes has_start_id
  start_id_again = refl

  -- there are 60 bytes
  pub length-header_bytes : length (header_bytes h) ≡ 60
  unfolding header_bytes
  length-header_bytes =
      let guid : length h.vendor_guid ≡ 16 = is.vendor_guid in
      omega (arith, length-append (front_bytes h) (back_bytes h), length-front_bytes)

-- a header that was written is read again
pub HeadersReadBack-all : (h : Header) (rest : List ℕ) → IsHeader h → header_read (header_bytes h ++ rest) 0 ≡ Ok h
unfolding header_read
HeadersReadBack-all h rest is =
    let room : 60 ≤ length (header_bytes h ++ rest) = omega (arith, length-append (header_bytes h) rest, length-header_bytes h rest is) in
    rw (le-ltb (length (header_bytes h ++ rest)) 60 room, start_id_again h rest is) (ap Ok (read_again h rest is))
