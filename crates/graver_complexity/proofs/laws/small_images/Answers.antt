use Rattle.graver_complexity.proofs.SizeLaws.{IsSignedSum-images}
use Rattle.graver_complexity.proofs.laws.small_images.Goals as goal

pub returns : goal.returns
returns c = IsSignedSum-images
