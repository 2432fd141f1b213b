mod Pixels
