-- The blank image: how long it is, what stands at its front, and that its headers are accepted.
use Rattle.std.proofs.Common.{◌≡◌, ℕ, ◌+◌, false, length, take, replicate, refl, ap, ◌∙◌, Ok, length-append}
use Rattle.std.proofs.lemmas.Bool.{eq-eqb}
use Rattle.std.proofs.lemmas.List.{length-replicate, take_at}
use Rattle.flash_dev.specs.Blank.{blank_headers, blank_image}
use Rattle.flash_dev.specs.Geometry.{blocks_check, geometry_of, image_geometry, store_check, sum_check, volume_check}

-- the headers are 100 bytes
pub length-blank_headers : length blank_headers ≡ 100
unfolding blank_headers
length-blank_headers = refl

-- the blank image is as long as an image
pub length-blank_image : length blank_image ≡ 131072
unfolding blank_image
length-blank_image =
    length-append blank_headers (replicate 130972 255)
    ∙ ap (λ n. length blank_headers + n) (length-replicate {A = ℕ} 130972 255)
    ∙ ap (λ n. n + 130972) length-blank_headers

-- the headers stand at the front of the blank image
blank_front : take 100 blank_image ≡ blank_headers
unfolding blank_image
blank_front = take_at blank_headers (replicate 130972 255) 100 length-blank_headers

-- the headers of the blank image are accepted
headers_accepted : geometry_of blank_headers ≡ Ok (record { plain = false })
unfolding blank_headers geometry_of volume_check blocks_check sum_check store_check
headers_accepted = refl

-- the blank image is accepted
pub blank_accepted : image_geometry blank_image ≡ Ok (record { plain = false })
unfolding image_geometry
blank_accepted = rw (eq-eqb (length blank_image) 131072 length-blank_image, blank_front) headers_accepted
