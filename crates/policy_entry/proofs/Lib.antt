mod Units
mod FrontNames
mod Sizes
mod NulEnds
mod ReadBack
mod Written
