use Rattle.std.proofs.Common.{◌≡◌, ℕ, List, length, vec_len, arith, ◌∙◌}
use Rattle.image_make.proofs.Images.{image-filled}
use Rattle.image_make.proofs.blank.image_with.Goals as goal

pub returns : goal.returns
returns c =
    let headers : List ℕ = c.args.headers.now in
    let count : length headers ≡ 100 = omega arith in
    let copied : c.in_ok-image.image.items ≡ headers = c.in_ok-image.ensures.items_if_clones_equal (λ x y e. e) in
    let long : vec_len c.in_ok-image.image ≡ 100 = omega (arith, c.in_ok-image.ensures.len) in
    c.in_ok-resize.ensures.items ∙ image-filled c.in_ok-image.image.items headers (vec_len c.in_ok-image.image) copied count long
